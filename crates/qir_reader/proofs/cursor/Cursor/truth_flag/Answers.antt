use Rattle.std.proofs.lemmas.Result.{err_from_is_err_and}
use Rattle.qir_module.specs.Words as w
use Rattle.qir_module.specs.Reader.{read_truth}
use Rattle.qir_reader.specs.Seen.{quoted_of}
use Rattle.qir_reader.proofs.Lines.{line_read, line_open}
use Rattle.qir_reader.proofs.cursor.Cursor.truth_flag.Goals as goal

pub returns-in_err-mark : goal.returns-in_err-mark
returns-in_err-mark c =
    let p = err_from_is_err_and c.from_residual-in_err-mark.result c.from_residual-in_err-mark.ensures.1 in
    rw (p.1, p.2) (λ other. line_open c.args.number 140 (quoted_of c.args.name) w.I1 read_truth c.args.self.now _ _ _ c.in_ok-value.value _
    c.in_ok-flag_front.ensures.read c.in_ok-value.ensures (c.in_err-mark.ensures other))

pub returns : goal.returns
returns c =
    line_read c.args.number 140 (quoted_of c.args.name) w.I1 read_truth c.args.self.now _ _ c.mark.new.self _ _ c.in_ok-value.value
    c.in_ok-flag_front.ensures.read c.in_ok-value.ensures c.in_ok-mark.ensures.read
