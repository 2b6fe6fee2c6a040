use Rattle.std.proofs.lemmas.List.{reverse-append}
use Rattle.open_names.specs.Keeping.{standing_of}
use Rattle.open_names.proofs.Kept.{IsKept-opened}
use Rattle.open_names.proofs.names.OpenNames.open.Goals as goal

pub invariant_of-self-2 : goal.invariant_of-self-2
invariant_of-self-2 g c =
    rw (c.in_ok-push.ensures.items, c.in_ok-names.ensures, reverse-append) (IsKept-opened (standing_of c.self.inside) c.self.inside.counts c.self.invariant)
