-- Serves private contracts: the answer of a whole list of tokens.
use Rattle.std.specs.Prelude.{◌≡◌, ◌≢◌, ℕ, List, [], ◌∷◌, Result, Ok, Err}
use Rattle.qir_module.specs.Module.{Module}
use Rattle.qir_module.specs.Tokens.{Token, Breach}
use Rattle.qir_module.specs.Grammar.{Heading, module_of}
use Rattle.qir_module.specs.Spoilt.{rule_of_value}
use Rattle.qir_module.specs.Reader.{breach_at}
use Rattle.qir_lexer.specs.declared.rule.TextFault.{TextFault}
use Rattle.qir_lexer.specs.declared.rule.TextFault.TheVariants.{Memory, Refused}
use Rattle.qir_lexer.specs.Rules.{breach_of}
use Rattle.qir_reader.specs.declared.declaration.Heading.{Heading as CodeHeading}
use Rattle.qir_reader.specs.declared.ending.Attributes.{Attributes}
use Rattle.qir_reader.specs.declared.ending.Flags.{Flags}
use Rattle.qir_reader.specs.declared.stop.Stop.{Stop}
use Rattle.qir_reader.specs.declared.stop.Stop.TheVariants as why
use Rattle.qir_reader.specs.Seen.{refusal}
use Rattle.qir_reader.specs.Parts.{attributes_of, flags_of}

-- the rule by which the first of these tokens fails of which only the value is wrong
abbrev pub rule_of_head : List Token → ℕ
rule_of_head [] = 5
rule_of_head (t ∷ ts) = rule_of_value t.kind

-- the fault of a stop at these tokens
abbrev pub IsFault : List ℕ → List Token → Stop → TextFault → Type 0
IsFault text ts stop (Refused r) = (stop ≢ why.Memory) × (breach_at text (refusal stop ts) ≡ breach_of r)
IsFault text ts stop Memory = stop ≡ why.Memory

-- the call gives this answer, want of memory aside
abbrev pub Answers : Result Module Breach → Result Module TextFault → Type 0
Answers answer (Ok m) = answer ≡ Ok m
Answers answer (Err (Refused r)) = answer ≡ Err (breach_of r)
Answers answer (Err Memory) = Unit {0}

-- the module behind a heading
abbrev pub ending_of : Heading → Attributes × Flags → Module
ending_of heading found = module_of heading (attributes_of found.0) (flags_of found.1)

-- the module of what the code has read
abbrev pub module_in : CodeHeading → Attributes → Flags → Module
module_in h x y = record {
  labels = h.labels.items;
  blocks = h.blocks.items;
  declarations = h.declarations.functions.items;
  profile = x.profile;
  qubits = x.qubits;
  results = x.results;
  major = y.major;
  minor = y.minor;
  dynamic_qubits = y.dynamic_qubits;
  dynamic_results = y.dynamic_results;
}
