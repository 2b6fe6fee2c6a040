use Rattle.std.proofs.Common.{◌≡◌, ℕ, suc, ◌-◌, ◌<◌, [], ◌∷◌, ◌++◌, length, List, sym, ap, ◌∙◌, arith}
use Rattle.std.proofs.lemmas.List.{length-append}
use Rattle.qq_tool.specs.declared.thin.ThinLine.{ThinLine}
use Rattle.qq_tool.specs.Reading.{lines_at}
use Rattle.qq_tool.proofs.Loop.{with_front, nonempty, nothing, ends, goes_on, stops, is_full}
use Rattle.qq_tool.proofs.read.lines.Goals as goal

pub returns-then-len-eq-MOST_LINES : goal.returns-then-len-eq-MOST_LINES
returns-then-len-eq-MOST_LINES c =
    let some : 0 < length c.loop-rest.rest.now = nonempty (length c.loop-rest.rest.now) (cc) in
    let full : 10000 - length c.loop-rest.found.items ≡ 0 = omega (arith, c.len.ensures, c.loop-rest.found.ok.0) in
    sym c.loop-rest.invariant.1 ∙ rw full (is_full c.args.qubits c.args.bits c.loop-rest.found.items c.loop-rest.rest.now some)

pub returns-in_default : goal.returns-in_default
returns-in_default c =
    let some : 0 < length c.loop-rest.rest.now = nonempty (length c.loop-rest.rest.now) (cc) in
    sym c.loop-rest.invariant.1
    ∙ stops c.args.qubits c.args.bits c.loop-rest.found.items (10000 - length c.loop-rest.found.items) c.loop-rest.rest.now some c.in_default.ensures

pub loop-rest-preserved : goal.loop-rest-preserved
loop-rest-preserved c =
    let items = c.loop-rest.found.items in
    let left = 10000 - length c.push.new.self.items in
    let some : 0 < length c.loop-rest.rest.now = nonempty (length c.loop-rest.rest.now) (cc) in
    let more : c.push.new.self.items ≡ items ++ c.in-Some.next ∷ [] = c.in_ok-push.ensures.items in
    let room : length items < 10000 = omega (arith, c.len.ensures, c.loop-rest.found.ok.0, c.if-len-eq-MOST_LINES.false, c.loop-rest.invariant.0) in
    let longer : length c.push.new.self.items ≡ suc (length items) = ap length more ∙ simp length-append (omega arith) in
    let step = goes_on c.args.qubits c.args.bits items left c.loop-rest.rest.now c.in-Some.next c.in-Some.behind.now some c.in-Some.ensures in
    let one_less : suc left ≡ 10000 - length items = omega arith in (
      omega arith,
      ap (λ (ls : List ThinLine). with_front ls (lines_at c.args.qubits c.args.bits left c.in-Some.behind.now)) more
          ∙ sym step
          ∙ ap (λ (n : ℕ). with_front items (lines_at c.args.qubits c.args.bits n c.loop-rest.rest.now)) one_less
          ∙ c.loop-rest.invariant.1,
    )

pub returns : goal.returns
returns c =
    let none : length c.loop-rest.rest.now ≡ 0 = nothing (length c.loop-rest.rest.now) (cc) in
    sym c.loop-rest.invariant.1
    ∙ ends c.args.qubits c.args.bits c.loop-rest.found.items (10000 - length c.loop-rest.found.items) c.loop-rest.rest.now none
