-- What the laws say: the tokens of a canonical text, and what is read from numerals, labels and names.
use Rattle.std.proofs.Common.{◌≡◌, ℕ, ◌^◌, true, ◌&&◌, not, cond, List, [], ◌∷◌, Some, Ok, ap, ◌∙◌, subst, arith}
use Rattle.std.specs.Prelude.{nat_lt, All}
use Rattle.std.specs.List.{flat_map, list_all}
use Rattle.std.specs.Fmt.{decimal}
use Rattle.std.specs.Str.Parse.{digits_value}
use Rattle.std.proofs.lemmas.Bool.{and_parts}
use Rattle.qir_module.specs.declared.function.Function.{Function}
use Rattle.qir_module.specs.Functions.{Row, row_of}
use Rattle.qir_module.specs.Module.{Module, IsShaped, IsNumber, IsByte, IsFunction}
use Rattle.qir_module.specs.Text.{escaped}
use Rattle.qir_module.specs.Tokens.{Token, Tokens, IsWord, begins_word, continues_word, bytes_meant, leads_with_zero}
use Rattle.qir_module.specs.Lexer.{lexed, heads}
use Rattle.qir_module.specs.Words as w
use Rattle.qir_module.specs.Words.{is_numeral, text_of}
use Rattle.qir_module.specs.Written.{written}
use Rattle.qir_text_tokens.specs.Signs.{kinds_of, module_tokens}
use Rattle.qir_text_tokens.proofs.Passages.{tokenized_lexed}
use Rattle.qir_text_tokens.proofs.Numerals.{IsDecimal, decimal_is, below_test}
use Rattle.qir_text_tokens.proofs.Names.{escaped_meant}
use Rattle.qir_text_tokens.proofs.Table.{row_at}
use Rattle.qir_text_tokens.proofs.Texts.{bytes_by_recursion, written_read}

-- where the tokens of a text are as the lexer on lists finds them
pub tokens_found : ((text : List ℕ) → Tokens text (lexed text)) → (m : Module) → IsShaped m → (tokens : List Token) × Tokens (written m) (Ok tokens) × (kinds_of tokens ≡ module_tokens m)
tokens_found right m shaped =
    let found = tokenized_lexed (written m) (module_tokens m) (written_read m shaped) in
    (found.tokens, subst (Tokens (written m)) found.found (right (written m)), found.kinds_are)

pub numeral_of : (n : ℕ) → IsNumber n → text_of (decimal n) ≡ w.Numeral n
numeral_of n h =
    let d = decimal_is n (omega arith) in
    let ds : List ℕ = d.0 ∷ d.1 in
    let is : IsDecimal n d.0 d.1 = d.2 in
    let small : nat_lt (digits_value 10 ds) (2 ^ 32) ≡ true = ap (λ (x : ℕ). nat_lt x (2 ^ 32)) is.value ∙ below_test n (2 ^ 32) h in
    let test : is_numeral ds ≡ true =
    ap (λ b. b && not (leads_with_zero ds) && nat_lt (digits_value 10 ds) (2 ^ 32)) is.digits
    ∙ ap (λ b. not b && nat_lt (digits_value 10 ds) (2 ^ 32)) is.plain ∙ small in
    ap text_of is.is ∙ ap (λ b. cond b (w.Numeral (digits_value 10 ds)) (w.looked_up w.OtherText w.texts ds)) test ∙ ap w.Numeral is.value

pub label_meant : (bytes : List ℕ) → All IsByte bytes → bytes_meant (flat_map escaped bytes) ≡ bytes
label_meant bytes h = escaped_meant bytes (bytes_by_recursion bytes h)

word_of_parts : (cs : List ℕ) → heads begins_word cs ≡ true → list_all continues_word cs ≡ true → IsWord cs
word_of_parts [] e f = absurd (cc)
word_of_parts (c ∷ cs) e f = (e, (and_parts (continues_word c) (list_all continues_word cs) f).1)

pub named_row : (function : Function) → IsFunction function → (row : Row) × (row_of function.0 ≡ Some row) × IsWord row.name
named_row function h = let found = row_at function.0 h in (found.row, found.is, word_of_parts found.row.name found.begins found.continues)
