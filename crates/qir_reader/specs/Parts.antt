-- Serves private contracts: parts of readers of lists that have functions of their own, and what the values of the
-- code stand for.
use Rattle.std.specs.Prelude.{◌≡◌, ℕ, Bool, true, false, List, [], ◌∷◌, ◌++◌, Result, Ok, Err}
use Rattle.qir_module.specs.declared.instruction.Instr.{Instr}
use Rattle.qir_module.specs.declared.instruction.Instr.TheVariants as i
use Rattle.qir_module.specs.declared.block.Block.{Block}
use Rattle.grammar_parts.specs.Reading.{Reader, done, ◌>>=◌, choose, take_repeated}
use Rattle.grammar_parts.specs.Kinds.{among}
use Rattle.qir_module.specs.Tokens.{Token}
use Rattle.qir_module.specs.Words as w
use Rattle.qir_module.specs.Words.{Reserved, Quoted, kind}
use Rattle.qir_module.specs.Grammar.{Item, AsPhi, AsInstr, phis_of, instrs_of, Attributes, Flags, arithmetic, logic, condition, flag_at}
use Rattle.qir_module.specs.Reader.{◌▹◌, word_kinds, read_word, read_flag_text, read_equals, read_bang, read_left_brace, read_comma, read_sign, read_numbered, read_operation_word, read_binary, read_typed, read_operand, block_kinds, read_block}
use Rattle.qir_reader.specs.declared.stop.Stop.{Stop}
use Rattle.qir_reader.specs.declared.stop.Stop.TheVariants as why
use Rattle.qir_reader.specs.declared.block.Item.{Item as CodeItem}
use Rattle.qir_reader.specs.declared.block.Item.TheVariants as c
use Rattle.qir_reader.specs.declared.block.Items.{Items}
use Rattle.qir_reader.specs.declared.ending.Attributes.{Attributes as CodeAttributes}
use Rattle.qir_reader.specs.declared.ending.Flags.{Flags as CodeFlags}

-- a type, which tells whether it is that of truth values
abbrev pub read_type : Reader Token Bool
read_type = choose (among kind (word_kinds w.I64)) (read_word w.I64 ▹ done false) (read_word w.I1 ▹ done true)

-- items, one at least, of which each but the first is read by a reader of its own
abbrev pub read_some : {A : Type 0} → (Token → Bool) → Reader Token A → Reader Token A → Reader Token (List A)
read_some test item more = item >>= (λ x. take_repeated test more >>= (λ xs. done (x ∷ xs)))

-- ---- instructions

abbrev pub read_arithmetic : ℕ → Reader Token Instr
read_arithmetic r = read_operation_word arithmetic >>= (λ op. read_word w.I64 ▹ read_binary r op false)

abbrev pub read_logic : ℕ → Reader Token Instr
read_logic r = read_operation_word logic >>= (λ op. read_typed (read_binary r op))

abbrev pub read_comparison : ℕ → Reader Token Instr
read_comparison r = read_word w.Icmp ▹ (read_operation_word condition >>= (λ op. read_word w.I64 ▹ read_binary r op false))

abbrev pub read_extension : ℕ → Reader Token Instr
read_extension r = read_word w.Zext ▹ (read_word w.I1 ▹ (read_operand true >>= (λ x. read_word w.To ▹ (read_word w.I64 ▹ done (i.Zext r x)))))

abbrev pub read_truncation : ℕ → Reader Token Instr
read_truncation r = read_word w.Trunc ▹ (read_word w.I64 ▹ (read_operand false >>= (λ x. read_word w.To ▹ (read_word w.I1 ▹ done (i.Trunc r x)))))

-- ---- items

abbrev pub item_of : CodeItem → Item
item_of (c.Phi phi) = AsPhi phi
item_of (c.Instr instr) = AsInstr instr

-- the phis and the instructions of the items
abbrev pub ShowsItems : Items → List Item → Type 0
ShowsItems found items = (found.phis.items ≡ phis_of items) × (found.body.items ≡ instrs_of items)

-- the item is behind the others
abbrev pub AddsItem : Items → CodeItem → Result (Unit {0}) Stop → Items → Type 0
AddsItem old (c.Phi p) (Ok x) new = (new.phis.items ≡ old.phis.items ++ p ∷ []) × (new.body.items ≡ old.body.items)
AddsItem old (c.Instr n) (Ok x) new = (new.phis.items ≡ old.phis.items) × (new.body.items ≡ old.body.items ++ n ∷ [])
AddsItem old item (Err e) new = e ≡ why.Memory

-- ---- blocks

abbrev pub read_some_blocks : Reader Token (List Block)
read_some_blocks = read_some (among kind block_kinds) read_block read_block

-- ---- attributes and flags

abbrev pub read_flag_front : ℕ → ℕ → Quoted → Reserved → Reader Token Token
read_flag_front k behaviour name type =
    read_numbered flag_at k ▹ (read_equals ▹ (read_bang ▹ (read_left_brace ▹ (read_word w.I32 ▹ (read_sign behaviour ▹ (read_comma ▹ (read_flag_text name ▹ (read_comma ▹ read_word type))))))))

abbrev pub attributes_of : CodeAttributes → Attributes
attributes_of x = record { profile = x.profile; qubits = x.qubits; results = x.results }

abbrev pub flags_of : CodeFlags → Flags
flags_of x = record { major = x.major; minor = x.minor; dynamic_qubits = x.dynamic_qubits; dynamic_results = x.dynamic_results }
