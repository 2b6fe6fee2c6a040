use Rattle.std.proofs.Common.{◌≡◌, ◌+◌, ◌≤◌, ◌++◌, drop}
use Rattle.qq_tool.specs.Lowered.{lines_instrs, lines_count, lines_operands}
use Rattle.qq_tool.proofs.lower.Draft.add_lines.Given as goal

-- what is written so far, and what the lines that are left add, are all
abbrev pub invariant-loop-line : goal.invariant-loop-line
invariant-loop-line l = record {
  body : l.self.body.items ++ lines_instrs l.self.measured (drop l.line-index l.lines) ≡ l.initial.self.body.items ++ lines_instrs l.initial.self.measured l.lines;
  operands : lines_operands l.self.measured (drop l.line-index l.lines) l.self.operands.items ≡ lines_operands l.initial.self.measured l.lines l.initial.self.operands.items;
  measured : lines_count l.self.measured (drop l.line-index l.lines) ≡ lines_count l.initial.self.measured l.lines;
  room : l.self.measured ≤ l.initial.self.measured + l.line-index;
}
