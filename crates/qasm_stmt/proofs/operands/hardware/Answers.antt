use Rattle.std.proofs.Common.{arith, refl, sym, subst, length}
use Rattle.std.proofs.lemmas.List.Elements.{All-nil}
use Rattle.qasm_ast.specs.Tree.{qubit, no_bracket}
use Rattle.qasm_ast.specs.Whole.{AllOf, IndexFits}
use Rattle.qasm_stmt.proofs.Spellings.{hardware_read}
use Rattle.qasm_stmt.proofs.operands.hardware.Goals as goal

pub returns-in-Hardware-clause-gives : goal.returns-in-Hardware-clause-gives
returns-in-Hardware-clause-gives c =
    (record { name = qubit c.in-Hardware.n; index = no_bracket; place = _ }, λ a. (record { name = tt; index = subst (AllOf (IndexFits (length a.exprs.items))) (sym c.new.ensures.items) (record { count = omega arith; each = All-nil (IndexFits (length a.exprs.items)) }) }, rw c.new.ensures.items refl), omega arith, omega (arith, c.if-from-tokens.false), hardware_read c.args.tokens.now c.args.from c.in-Hardware.n _ c.requires.within c.if-from-tokens.false c.in-Hardware.is)
