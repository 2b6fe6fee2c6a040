use Rattle.const_cases.specs.declared.names.Named.TheVariants.{Held, Running, Other, Unknown}
use Rattle.const_cases.proofs.Found.{found_item, not_past}
use Rattle.const_cases.proofs.names.NamesConstants.lookup.Goals as goal

pub returns-in-Some-Held : goal.returns-in-Some-Held
returns-in-Some-Held c =
    found_item c.args.name c.args.self.now.items.items c.deref.result.now c.in-Some-Held.field-0 (Held c.in-Some-Held.value) c.in-Some-Held.ensures.lookup c.deref.ensures.value c.in-Some-Held.field-0-is

pub returns-in-Some-Running : goal.returns-in-Some-Running
returns-in-Some-Running c =
    found_item c.args.name c.args.self.now.items.items c.deref.result.now c.in-Some-Running.field-0 Running c.in-Some-Running.ensures.lookup c.deref.ensures.value c.in-Some-Running.field-0-is

pub returns-in-Some-Other : goal.returns-in-Some-Other
returns-in-Some-Other c =
    found_item c.args.name c.args.self.now.items.items c.deref.result.now c.in-Some-Other.field-0 Other c.in-Some-Other.ensures.lookup c.deref.ensures.value c.in-Some-Other.field-0-is

pub returns-in-Some-Unknown : goal.returns-in-Some-Unknown
returns-in-Some-Unknown c =
    found_item c.args.name c.args.self.now.items.items c.deref.result.now c.in-Some-Unknown.field-0 Unknown c.in-Some-Unknown.ensures.lookup c.deref.ensures.value c.in-Some-Unknown.field-0-is

pub returns-in-None : goal.returns-in-None
returns-in-None c = absurd (not_past c.args.name c.args.self.now.items.items c.deref.result.now c.in-None.ensures.lookup c.deref.ensures.value c.requires)
