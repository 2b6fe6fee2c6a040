use Rattle.std.proofs.Common.{ℕ, List, ◌≡◌, sym, subst}
use Rattle.std.proofs.lemmas.Result.{IfOk-weaker}
use Rattle.qir_module.specs.Spoilt.{IsTextOf}
use Rattle.qir_module.specs.Written.{written}
use Rattle.qq_tool.specs.Compiled.{IsCompiled}
use Rattle.qq_tool.proofs.compile.compiled.Goals as goal

pub returns : goal.returns
returns c =
    let m = c.in_ok-module.module in
    IfOk-weaker c.write_module.result (λ text. text.items ≡ written m) (λ text. IsCompiled c.args.program.now text.items)
    (λ text is. (m, c.in_ok-module.ensures, is, subst (λ (bytes : List ℕ). IsTextOf bytes m) (sym is) (c.written_modules_are_read.ensures m c.in_ok-module.ensures.shaped)))
    c.write_module.ensures
