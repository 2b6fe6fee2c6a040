use Rattle.alias_resolve.proofs.bracket.bracket_places.Goals as goal

pub returns-in_ok-set_places-in-Set-clause-ok : goal.returns-in_ok-set_places-in-Set-clause-ok
returns-in_ok-set_places-in-Set-clause-ok c = rw (c.in-Set.is, ← c.members.view_is, ← c.deref.ensures.value, c.in_ok-set_places-in-Set.ensures.ok)
