use Rattle.open_names.specs.Slots.{thing_in}
use Rattle.open_names.proofs.Things.{find-mapped, is_here-mapped, close-mapped, rows-mapped}
use Rattle.open_names.proofs.laws.things_follow_slots.Goals as goal

pub returns : goal.returns
returns g c p scopes = record {
  found = λ x. find-mapped (thing_in p) x scopes;
  here = λ x. is_here-mapped (thing_in p) x scopes;
  closed = close-mapped (thing_in p) scopes;
  included = λ rows. rows-mapped p rows scopes;
}
