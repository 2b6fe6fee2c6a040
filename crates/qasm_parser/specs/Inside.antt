-- For private contracts: what a parser keeps.
use Rattle.std.specs.Prelude.{◌+◌, ◌^◌, ◌<◌, ◌≤◌, length, drop}
use Rattle.qasm_expr.specs.Seen.{Cut}
use Rattle.qasm_parser.specs.State.{State, nodes}
use Rattle.qasm_parser.specs.declared.parser.Parser.TheInside.{Inside}

abbrev pub state_of : Inside → State
state_of p = record { text = p.text.now; tokens = p.tokens.now; left = drop p.at p.tokens.now; names = p.names.keys; exprs = p.exprs.items; stmts = p.stmts.items }

-- The tokens are those of the text, and for each that is left there is a number for one more name and for one more node.
pub record IsReady (p : Inside) : Type 0 where
  pub cut : Cut p.text.now p.tokens.now
  pub within : p.at ≤ length p.tokens.now
  pub room_for_names : length p.names.keys + length (drop p.at p.tokens.now) < 2 ^ 32
  pub room_for_nodes : nodes (state_of p) + length (drop p.at p.tokens.now) < 2 ^ 32
