use Rattle.std.proofs.Common.{◌+◌, ◌-◌, ◌*◌, ◌≤◌, ◌∷◌, [], Some, length}
use Rattle.qasm_lexer.specs.declared.token.Mark.TheVariants as m
use Rattle.qasm_expr.specs.TokenKinds.{mark_kind}
use Rattle.qasm_expr.specs.Reader.{expr_kinds, read_expr, read_unary, read_binary, read_level, read_index, read_indexes, read_list}
use Rattle.qasm_expr.specs.Seen.{deeper_content, tighter, rows_at}
use Rattle.qasm_parser.specs.State.{After}
use Rattle.qasm_parser.specs.Shows.{Each, IsTree, IsCounted, IsBracket}
use Rattle.qasm_parser.proofs.Chains.{Going}
use Rattle.qasm_parser.proofs.Repeating.{Repeating}
use Rattle.qasm_parser.proofs.Listing.{Listing}
use Rattle.qasm_parser.proofs.parser.Parser.+expr.Given as goal

abbrev pub decreases-expr : goal.decreases-expr
decreases-expr l = l.room * 40 + 25

abbrev pub decreases-binary : goal.decreases-binary
decreases-binary l = l.room * 40 + 14 + (10 - l.rank)

abbrev pub decreases-unary : goal.decreases-unary
decreases-unary l = l.room * 40 + 13

abbrev pub decreases-prim : goal.decreases-prim
decreases-prim l = l.room * 40 + 12

abbrev pub decreases-cast : goal.decreases-cast
decreases-cast l = l.room * 40 + 11

abbrev pub decreases-scalar : goal.decreases-scalar
decreases-scalar l = l.room * 40 + 10

abbrev pub decreases-between : goal.decreases-between
decreases-between l = l.room * 40 + 9

abbrev pub decreases-named : goal.decreases-named
decreases-named l = l.room * 40 + 11

abbrev pub decreases-indexes : goal.decreases-indexes
decreases-indexes l = l.room * 40 + 10

abbrev pub decreases-content : goal.decreases-content
decreases-content l = l.room * 40 + 30

abbrev pub decreases-behind_colon : goal.decreases-behind_colon
decreases-behind_colon l = l.room * 40 + 28

abbrev pub decreases-range_end : goal.decreases-range_end
decreases-range_end l = l.room * 40 + 26

abbrev pub decreases-list : goal.decreases-list
decreases-list l = l.room * 40 + 28

abbrev pub invariant-binary-chain : goal.invariant-binary-chain
invariant-binary-chain l = record {
  going : Going l.fn.self.text (rows_at l.rank) (read_binary l.fn.self.text (Some 64) (tighter (l.rank + 1)) (read_unary l.fn.self.text (Some 64) l.room)) (IsCounted l.self (l.left, l.count)) (read_level l.fn.self.text (Some 64) (rows_at l.rank) (read_binary l.fn.self.text (Some 64) (tighter (l.rank + 1)) (read_unary l.fn.self.text (Some 64) l.room)) l.used l.fn.self.left) l.self.left;
  after : After 0 0 l.fn.self l.self;
}

abbrev pub decreases-binary-chain : goal.decreases-binary-chain
decreases-binary-chain l = length l.self.left

abbrev pub invariant-indexes-brackets : goal.invariant-indexes-brackets
invariant-indexes-brackets l = record {
  repeating : Repeating l.fn.self.text (mark_kind m.LeftBracket ∷ []) (read_index l.fn.self.text l.room (deeper_content l.fn.self.text l.room)) (Each (IsBracket l.self)) (read_indexes l.fn.self.text l.room (deeper_content l.fn.self.text l.room) l.fn.self.left) l.found.items l.self.left;
  count : length l.found.items + length l.self.left ≤ length l.fn.self.left;
  after : After 0 0 l.fn.self l.self;
}

abbrev pub decreases-indexes-brackets : goal.decreases-indexes-brackets
decreases-indexes-brackets l = length l.self.left

abbrev pub invariant-list-items : goal.invariant-list-items
invariant-list-items l = record {
  listing : Listing l.fn.self.text expr_kinds (read_expr l.fn.self.text (Some 64) l.room) (Each (IsTree l.self)) (read_list l.fn.self.text l.filled (read_expr l.fn.self.text (Some 64) l.room) l.fn.self.left) l.first l.found.items l.self.left;
  count : length l.found.items + length l.self.left ≤ length l.fn.self.left;
  after : After 0 0 l.fn.self l.self;
}

abbrev pub decreases-list-items : goal.decreases-list-items
decreases-list-items l = length l.self.left
