use Rattle.std.proofs.Common.{◌≡◌}
use Rattle.qir_reader.specs.Seen.{head_kind}
use Rattle.qir_reader.proofs.Taking.{sign_taken}
use Rattle.qir_reader.proofs.cursor.Cursor.sign.Goals as goal

pub returns : goal.returns
returns c =
    let is : head_kind c.args.self.now ≡ c.args.class = cc in
    sign_taken c.args.class c.args.self.now c.advance.new.self c.requires is c.advance.ensures
