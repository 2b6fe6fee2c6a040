-- Names with brackets.
use Rattle.std.proofs.Common.{◌≡◌, reverse, ℕ, ◌<◌, Bool, true, false, List, [], ◌∷◌, length, Result, Ok, refl, arith}
use Rattle.qq_base.specs.declared.refusal.Fault.{Fault}
use Rattle.qq_base.specs.declared.refusal.Refusal.{Refusal}
use Rattle.qq_base.specs.declared.refusal.Span.{Span}
use Rattle.qq_base.specs.declared.rule.Rule.TheVariants.{WrongKind}
use Rattle.qasm_ast.specs.declared.expr.IndexRef.{IndexRef}
use Rattle.qasm_ast.specs.Tree.{Brackets, Called, named}
use Rattle.qasm_ast.specs.Whole.{Source}
use Rattle.qasm_ast.specs.View.{brackets_in}
use Rattle.alias_resolve.specs.declared.index.IndexValue.{IndexValue}
use Rattle.const_eval.specs.Answers.{Answers}
use Rattle.const_eval.specs.declared.constant.BitRegister.{BitRegister}
use Rattle.const_eval.specs.declared.constant.Const.{Const}
use Rattle.const_eval.specs.declared.constant.Const.TheVariants as k
use Rattle.const_eval.specs.Constant.{Constant, is_register, register_of}
use Rattle.const_eval.specs.ConstIndexes.{indexed_constant}
use Rattle.const_eval.specs.ConstValue.{called_constant, index_values, value}
use Rattle.const_eval.specs.Meaning.{Meaning}
use Rattle.const_eval.specs.Refusing.{refused}
use Rattle.const_eval.specs.Seen.{constant_of}

-- what is no register of bits
pub other_kind : (c : Const) → ((bits : BitRegister) → c ≡ k.Bits bits → ⊥) → is_register (constant_of c) ≡ false
other_kind (k.Whole w) other = refl
other_kind (k.Pi f) other = refl
other_kind (k.Bool b) other = refl
other_kind (k.Bits bits) other = absurd (other bits refl)
other_kind (k.Angle a) other = refl

module _ (p : Source) (means : List ℕ → Meaning) (exact : Bool) (whole_place : Span) (name : Called) (operand_place place : Span) (c : Constant) (meant : called_constant means whole_place place name ≡ Ok c) where
  -- the answer for the name with these brackets
  abbrev pub answer : List IndexRef → Result Constant Refusal
  answer index = value means exact whole_place (named name (brackets_in p index) operand_place place)

  -- brackets behind a constant that is no register
  pub no_register : (index : List IndexRef) → 0 < length index → is_register c ≡ false → answer index ≡ refused WrongKind place
  no_register [] lt other = absurd (omega arith)
  no_register (b ∷ index) lt other = rw (meant, other) refl

  -- brackets behind a register
  pub selects : (index : List IndexRef) (values : List IndexValue) → 0 < length index → is_register c ≡ true → index_values means exact whole_place (brackets_in p index) ≡ Ok values
      → answer index ≡ indexed_constant place (brackets_in p index) c values
  selects [] values lt register e = absurd (omega arith)
  selects (b ∷ index) values lt register e = rw (meant, register, e) refl

-- what brackets select of bits is the answer for a name that means them
pub selected_answer : (result : Result Const Fault) (whole : Result Constant Refusal) (place : Span) (index : Brackets) (v : Const) (bits : BitRegister) (values same : List IndexValue)
    → v ≡ k.Bits bits → same ≡ values → whole ≡ indexed_constant place index (constant_of v) values
    → Answers constant_of result (indexed_constant place index (register_of (reverse bits.text)) same) → Answers constant_of result whole
selected_answer result whole place index v bits values same is e due h = rw (due, is, ← e) h
