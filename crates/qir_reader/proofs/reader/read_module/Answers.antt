use Rattle.std.proofs.Common.{◌≡◌, ◌<◌, ◌^◌, length, Ok, sym, ap, ◌∙◌, subst}
use Rattle.qir_module.specs.Module.{Module, IsShaped}
use Rattle.qir_module.specs.Reader.{answer}
use Rattle.qir_lexer.specs.Seen.{tokens_of}
use Rattle.qir_reader.specs.Inside.{AreTokens}
use Rattle.qir_reader.specs.Whole.{Answers}
use Rattle.qir_reader.proofs.Answering.{are_tokens, are_few, is_shaped, answered}
use Rattle.qir_reader.proofs.reader.read_module.Goals as goal

pub new-cursor-requires-clause-sound : goal.new-cursor-requires-clause-sound
new-cursor-requires-clause-sound c = subst (AreTokens c.args.text.now) (sym c.deref.ensures.value) (are_tokens c.args.text.now c.in-Ok.tokens.items c.in-Ok.ensures.found)

pub new-cursor-requires-clause-few : goal.new-cursor-requires-clause-few
new-cursor-requires-clause-few c = subst (λ xs. length xs < 2 ^ 32) (sym c.deref.ensures.value) (are_few c.args.text.now c.in-Ok.tokens.items c.requires c.in-Ok.ensures.found)

pub module-requires-clause-shaped : goal.module-requires-clause-shaped
module-requires-clause-shaped c =
    let same : c.new-cursor.result ≡ tokens_of c.args.text.now c.in-Ok.tokens.items = c.new-cursor.ensures ∙ ap (tokens_of c.args.text.now) c.deref.ensures.value in
    subst (λ ts. (m : Module) → answer c.args.text.now ts ≡ Ok m → IsShaped m) (sym same) (is_shaped c.args.text.now c.in-Ok.tokens.items c.requires c.in-Ok.ensures.found)

-- the law says of the tokens what the answer says of the text
pub returns : goal.returns
returns c =
    let same : c.new-cursor.result ≡ tokens_of c.args.text.now c.in-Ok.tokens.items = c.new-cursor.ensures ∙ ap (tokens_of c.args.text.now) c.deref.ensures.value in
    let tokens = tokens_of c.args.text.now c.in-Ok.tokens.items in
    answered c.args.text.now tokens c.module.result c.in-Ok.ensures.found (c.answers_are_right.ensures c.args.text.now tokens) (subst (λ ts. Answers (answer c.args.text.now ts) c.module.result) same c.module.ensures)
