use Rattle.qasm_parser.proofs.parser.Parser.join.Goals as goal

pub node-requires-clause-fits : goal.node-requires-clause-fits
node-requires-clause-fits c = λ names le. (c.requires.left, c.requires.right)
