use Rattle.std.proofs.Common.{◌+◌, ◌-◌, ◌*◌, ◌≤◌, Some, length, drop, ◌∷◌, []}
use Rattle.qasm_lexer.specs.declared.token.Mark.TheVariants as m
use Rattle.qasm_expr.specs.TokenKinds.{mark_kind}
use Rattle.qasm_expr.specs.Reader.{expr_kinds, read_expr, read_unary, read_binary, read_index, read_indexes, read_list}
use Rattle.qasm_ast.specs.Tree.{trees, brackets}
use Rattle.qasm_expr.specs.Seen.{SeesAll, SeesBrackets, deeper_content, tighter, rows_at}
use Rattle.qasm_expr.specs.Answer.{Grows, Added}
use Rattle.qasm_expr.proofs.Chains.{Going}
use Rattle.qasm_expr.proofs.Loops.{Repeating, Listing}
use Rattle.std.specs.Prelude.{All}
use Rattle.qasm_ast.specs.Whole.{IndexFits}
use Rattle.qasm_expr.proofs.parse.+expr.Given as goal

abbrev pub decreases-expr : goal.decreases-expr
decreases-expr l = l.room * 40 + 25

abbrev pub decreases-binary : goal.decreases-binary
decreases-binary l = l.room * 40 + 14 + (10 - l.rank)

abbrev pub decreases-unary : goal.decreases-unary
decreases-unary l = l.room * 40 + 13

abbrev pub decreases-prim : goal.decreases-prim
decreases-prim l = l.room * 40 + 12

abbrev pub decreases-cast : goal.decreases-cast
decreases-cast l = l.room * 40 + 11

abbrev pub decreases-scalar : goal.decreases-scalar
decreases-scalar l = l.room * 40 + 10

abbrev pub decreases-between : goal.decreases-between
decreases-between l = l.room * 40 + 9

abbrev pub decreases-behind_name : goal.decreases-behind_name
decreases-behind_name l = l.room * 40 + 11

abbrev pub decreases-indexes : goal.decreases-indexes
decreases-indexes l = l.room * 40 + 10

abbrev pub decreases-content : goal.decreases-content
decreases-content l = l.room * 40 + 30

abbrev pub decreases-behind_colon : goal.decreases-behind_colon
decreases-behind_colon l = l.room * 40 + 28

abbrev pub decreases-range_end : goal.decreases-range_end
decreases-range_end l = l.room * 40 + 26

abbrev pub decreases-list : goal.decreases-list
decreases-list l = l.room * 40 + 28

abbrev pub invariant-binary-loop-op : goal.invariant-binary-loop-op
invariant-binary-loop-op l = record {
  going : Going l.text (rows_at l.rank) (read_binary l.text (Some 64) (tighter (l.rank + 1)) (read_unary l.text (Some 64) l.room)) l.tokens l.names.keys l.nodes.items l.from (read_binary l.text (Some 64) (tighter l.rank) (read_unary l.text (Some 64) l.room) l.used (drop l.from l.tokens)) l.left l.count l.at;
  grown : Grows l.fn.names.keys l.names.keys l.fn.nodes.items l.nodes.items;
  added : Added (length l.fn.names.keys) (length l.names.keys) (length l.fn.nodes.items) (length l.nodes.items) l.from l.at;
}

abbrev pub decreases-binary-loop-op : goal.decreases-binary-loop-op
decreases-binary-loop-op l = length l.tokens - l.at

abbrev pub invariant-indexes-brackets : goal.invariant-indexes-brackets
invariant-indexes-brackets l = record {
  bracketing : Repeating l.text (mark_kind m.LeftBracket ∷ []) (read_index l.text l.room (deeper_content l.text l.room)) l.tokens (λ js bs. SeesBrackets l.names.keys l.nodes.items (length l.nodes.items) js (brackets bs)) l.from (read_indexes l.text l.room (deeper_content l.text l.room) (drop l.from l.tokens)) l.found.items l.at;
  fits : All (IndexFits (length l.nodes.items)) l.found.items;
  few : length l.found.items + l.from ≤ l.at;
  grown : Grows l.fn.names.keys l.names.keys l.fn.nodes.items l.nodes.items;
  added : Added (length l.fn.names.keys) (length l.names.keys) (length l.fn.nodes.items) (length l.nodes.items) l.from l.at;
}

abbrev pub decreases-indexes-brackets : goal.decreases-indexes-brackets
decreases-indexes-brackets l = length l.tokens - l.at

abbrev pub invariant-list-items : goal.invariant-list-items
invariant-list-items l = record {
  listing : Listing l.text expr_kinds (read_expr l.text (Some 64) l.room) l.tokens (λ ids ts. SeesAll l.names.keys l.nodes.items (length l.nodes.items) ids (trees ts)) l.from (read_list l.text l.filled (read_expr l.text (Some 64) l.room) (drop l.from l.tokens)) l.first l.found.items l.at;
  few : length l.found.items + l.from ≤ l.at;
  grown : Grows l.fn.names.keys l.names.keys l.fn.nodes.items l.nodes.items;
  added : Added (length l.fn.names.keys) (length l.names.keys) (length l.fn.nodes.items) (length l.nodes.items) l.from l.at;
}

abbrev pub decreases-list-items : goal.decreases-list-items
decreases-list-items l = length l.tokens - l.at
