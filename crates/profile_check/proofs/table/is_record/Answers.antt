use Rattle.std.proofs.Common.{◌≡◌, ◌||◌, nat_eq, Bool, false, ap, sym, ◌∙◌, arith}
use Rattle.std.proofs.lemmas.Bool.{ne_eqb}
use Rattle.profile_check.proofs.TaskLemmas.{records_at}
use Rattle.profile_check.proofs.table.is_record.Goals as goal

pub returns : goal.returns
returns c =
    let n = c.args.function.0 in
    let two : nat_eq n 2 ≡ false = ne_eqb n 2 (λ e. omega (arith, e)) in
    let three : nat_eq n 3 ≡ false = ne_eqb n 3 (λ e. omega (arith, e)) in
    sym (records_at n ∙ ap (λ (t : Bool). t || nat_eq n 3 || nat_eq n 4) two ∙ ap (λ (t : Bool). false || t || nat_eq n 4) three)
