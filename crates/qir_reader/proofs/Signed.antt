-- A declaration, part by part.
use Rattle.std.proofs.Common.{◌≡◌, Bool, List, Ok, Err, refl}
use Rattle.qq_base.specs.declared.refusal.Span.{Span}
use Rattle.grammar_parts.specs.Reading.{Refusal}
use Rattle.qir_module.specs.declared.function.Function.{Function}
use Rattle.qir_module.specs.Tokens.{Token}
use Rattle.qir_module.specs.Words as w
use Rattle.qir_module.specs.Grammar.{ValueType}
use Rattle.qir_module.specs.Reader.{read_word, read_result_type, read_function_name, read_in_parens, value_type_kinds, read_value_type, read_undoing, read_signature}

module _ (old worded given named : List Token) (t : Token) (gives : Bool) (f : Function × Span)
    (first : read_word w.Declare old ≡ Ok (t, worded))
    (second : read_result_type worded ≡ Ok (gives, given))
    (third : read_function_name given ≡ Ok (f, named)) where
  pub signature_is : (typed new : List Token) (types : List ValueType) (fixed : Bool)
      → read_in_parens value_type_kinds read_value_type named ≡ Ok (types, typed) → read_undoing typed ≡ Ok (fixed, new)
      → read_signature old ≡ Ok (record { function = f.0; at = f.1; takes = types; gives = gives; irreversible = fixed }, new)
  unfolding read_signature
  signature_is typed new types fixed fourth fifth = rw (first, second, third, fourth, fifth) refl

  pub signature_fails : (why : Refusal Token) → read_in_parens value_type_kinds read_value_type named ≡ Err why → read_signature old ≡ Err why
  unfolding read_signature
  signature_fails why fourth = rw (first, second, third, fourth) refl
