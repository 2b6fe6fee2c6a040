use Rattle.qq_tool.proofs.Decided.{short_decided, long_decided}
use Rattle.qq_tool.proofs.laws.texts_are_decided.Goals as goal

pub returns-then-bytes-le-MOST_BYTES : goal.returns-then-bytes-le-MOST_BYTES
returns-then-bytes-le-MOST_BYTES c =
    let reading = c.texts_have_a_reading.ensures in
    short_decided c.args.bytes.now c.if-bytes-le-MOST_BYTES.true reading.0 reading.1 c.answers_are_right.ensures

pub returns-else-bytes-le-MOST_BYTES : goal.returns-else-bytes-le-MOST_BYTES
returns-else-bytes-le-MOST_BYTES c = long_decided c.args.bytes.now c.if-bytes-le-MOST_BYTES.false
