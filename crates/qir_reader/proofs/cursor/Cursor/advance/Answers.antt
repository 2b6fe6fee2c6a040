use Rattle.qir_reader.proofs.Left.{left_on}
use Rattle.qir_reader.proofs.cursor.Cursor.advance.Goals as goal

pub returns : goal.returns
returns c =
    let is = c.self.view_is in
    cc (left_on c.self.inside.text.now c.self.inside.tokens.now c.self.inside.position)
