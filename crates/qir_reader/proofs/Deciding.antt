-- The module of a whole list of tokens, by what the reader found on the way.
use Rattle.std.proofs.Common.{◌≡◌, ℕ, List, [], ◌∷◌, Option, Some, None, Ok, refl, sym, ap, ◌∙◌}
use Rattle.qir_module.specs.declared.function.Function.{Function}
use Rattle.qir_module.specs.declared.block.Block.{Block}
use Rattle.qir_module.specs.Module.{Module}
use Rattle.qir_module.specs.Tokens.{Token}
use Rattle.qir_module.specs.Grammar as g
use Rattle.qir_module.specs.Spoilt.{first_wrong}
use Rattle.qir_module.specs.Reader.{read_heading, read_ending, ended, behind_heading, answer_behind, answer}
use Rattle.qir_reader.specs.declared.declaration.Heading.{Heading}
use Rattle.qir_reader.specs.declared.ending.Attributes.{Attributes}
use Rattle.qir_reader.specs.declared.ending.Flags.{Flags}
use Rattle.qir_reader.specs.Seen.{Read, Peeks}
use Rattle.qir_reader.specs.Headings.{ShowsHeading, place_of_wrong}
use Rattle.qir_reader.specs.Whole.{ending_of, module_in}

-- the module of these lists
abbrev made : Attributes → Flags → List (List ℕ) → List Block → List Function → Module
made x y ls bs fs = record {
  labels = ls;
  blocks = bs;
  declarations = fs;
  profile = x.profile;
  qubits = x.qubits;
  results = x.results;
  major = y.major;
  minor = y.minor;
  dynamic_qubits = y.dynamic_qubits;
  dynamic_results = y.dynamic_results;
}

module _ (text : List ℕ) {old mid : List Token} {x : Heading} (h : Read ShowsHeading read_heading old mid x) where
  goes_on : (wrong : Option g.Signature) → None ≡ place_of_wrong wrong → behind_heading text h.value mid wrong ≡ ended text (read_ending h.value mid)
  goes_on None e = refl
  goes_on (Some s) e = absurd (cc)

  -- all declarations are the table's
  declarations_right : x.declarations.wrong ≡ None → answer text old ≡ ended text (read_ending h.value mid)
  declarations_right e = ap (answer_behind text) h.read ∙ goes_on (first_wrong h.value.signatures) (sym e ∙ h.shown.2.1)

  module _ (attributes : Attributes) (flags : Flags) where
    same_module : ending_of h.value (attributes, flags) ≡ module_in x attributes flags
    same_module =
        ap (λ ls. made attributes flags ls h.value.blocks (g.functions_of h.value.signatures)) (sym h.shown.0)
        ∙ ap (λ bs. made attributes flags x.labels.items bs (g.functions_of h.value.signatures)) (sym h.shown.1)
        ∙ ap (λ fs. made attributes flags x.labels.items x.blocks.items fs) (sym h.shown.2.0)

    ends_at : (new : List Token) → Peeks new None → ended text (Ok (ending_of h.value (attributes, flags), new)) ≡ Ok (module_in x attributes flags)
    ends_at [] p = ap Ok same_module
    ends_at (t ∷ ts) p = absurd p

    -- nothing stands behind the module
    pub whole : (new : List Token) → x.declarations.wrong ≡ None → read_ending h.value mid ≡ Ok (ending_of h.value (attributes, flags), new) → Peeks new None → answer text old ≡ Ok (module_in x attributes flags)
    whole new right read p = declarations_right right ∙ ap (ended text) read ∙ ends_at new p
