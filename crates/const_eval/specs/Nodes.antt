-- How many nodes a constant expression has. A node is a name, a literal, an operator or a cast, and a call is none; a name with
-- index brackets is one node of the name and one of what is selected, beside the nodes of its indexes, however many brackets
-- there are.
use Rattle.std.specs.Prelude.{ℕ, ◌+◌}
use Rattle.qasm_ast.specs.Tree.{Tree, named, wire, number, truth, bit_string, unary, binary, cast, call, cut, Trees, no_tree, a_tree, Maybe, absent, present, Bracket, position, range, members, Brackets, no_bracket, a_bracket}

abbrev mutual
  pub nodes_of : Tree → ℕ
  nodes_of (named name index _ _) = 1 + selecting_nodes index
  nodes_of (wire n _) = 1
  nodes_of (number n _) = 1
  nodes_of (truth b _) = 1
  nodes_of (bit_string bits _) = 1
  nodes_of (unary _ a _) = 1 + nodes_of a
  nodes_of (binary _ a b _) = 1 + (nodes_of a + nodes_of b)
  nodes_of (cast _ width _ a _) = 1 + (maybe_nodes width + nodes_of a)
  nodes_of (call name as' _) = 0
  nodes_of cut = 1

  -- brackets are one node more than their indexes, and no brackets are none
  pub selecting_nodes : Brackets → ℕ
  selecting_nodes no_bracket = 0
  selecting_nodes (a_bracket b bs) = 1 + (bracket_nodes b + brackets_nodes bs)

  pub trees_nodes : Trees → ℕ
  trees_nodes no_tree = 0
  trees_nodes (a_tree a as') = nodes_of a + trees_nodes as'

  pub maybe_nodes : Maybe → ℕ
  maybe_nodes absent = 0
  maybe_nodes (present a) = nodes_of a

  pub bracket_nodes : Bracket → ℕ
  bracket_nodes (position a) = nodes_of a
  bracket_nodes (range start step stop _) = maybe_nodes start + (maybe_nodes step + maybe_nodes stop)
  bracket_nodes (members as') = trees_nodes as'

  pub brackets_nodes : Brackets → ℕ
  brackets_nodes no_bracket = 0
  brackets_nodes (a_bracket b bs) = bracket_nodes b + brackets_nodes bs
