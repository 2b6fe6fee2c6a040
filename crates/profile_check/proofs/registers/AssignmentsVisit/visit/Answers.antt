use Rattle.std.proofs.Common.{◌≡◌, [], ◌∷◌, nat_eq, true, false, not, is_some}
use Rattle.std.specs.HashSet.{contains}
use Rattle.qir_module.specs.Passes.{item_registers}
use Rattle.profile_check.specs.Walk.{item_of}
use Rattle.profile_check.proofs.RegisterLemmas.{visit_found, visit_nothing, visit_new, visit_old}
use Rattle.profile_check.proofs.registers.AssignmentsVisit.visit.Goals as goal

pub returns-then-is_some : goal.returns-then-is_some
returns-then-is_some c = λ visited holds.
    let some : is_some c.args.self.now.again ≡ true = cc in
    visit_found c.args.self.now.assigned c.args.self.now.again visited _ some holds

pub returns-then-not-branch : goal.returns-then-not-branch
returns-then-not-branch c = λ visited holds.
    let none : is_some c.args.self.now.again ≡ false = cc in
    let is : item_registers (item_of c.args.it) ≡ c.in-Some.register ∷ [] = cc in
    let added : false ≡ not (contains nat_eq c.args.self.now.assigned c.in-Some.register) = cc c.in_ok-insert.ensures.added in
    visit_old c.args.self.now.assigned c.insert.new.self c.args.self.now.again visited (record { block = c.args.block; item = c.args.item; here = item_of c.args.it }) c.in-Some.register none is added holds

pub returns-else-not-branch : goal.returns-else-not-branch
returns-else-not-branch c = λ visited holds.
    let none : is_some c.args.self.now.again ≡ false = cc in
    let is : item_registers (item_of c.args.it) ≡ c.in-Some.register ∷ [] = cc in
    let added : true ≡ not (contains nat_eq c.args.self.now.assigned c.in-Some.register) = cc c.in_ok-insert.ensures.added in
    visit_new c.args.self.now.assigned c.insert.new.self c.args.self.now.again visited (record { block = c.args.block; item = c.args.item; here = item_of c.args.it }) c.in-Some.register none is added c.in_ok-insert.ensures.updates holds

pub returns-in_default : goal.returns-in_default
returns-in_default c = λ visited holds.
    let none : is_some c.args.self.now.again ≡ false = cc in
    let nothing : item_registers (item_of c.args.it) ≡ [] = cc in
    visit_nothing c.args.self.now.assigned c.args.self.now.again visited _ none nothing holds
