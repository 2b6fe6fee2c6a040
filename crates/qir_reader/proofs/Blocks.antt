-- Blocks, and the brace behind them.
use Rattle.std.proofs.Common.{◌≡◌, List, Ok, Err, sym, ap, ◌∙◌}
use Rattle.grammar_parts.specs.Reading.{Refusal, done, and_then}
use Rattle.grammar_parts.specs.Kinds.{among}
use Rattle.qir_module.specs.declared.block.Block.{Block}
use Rattle.qir_module.specs.Tokens.{Token}
use Rattle.qir_module.specs.Words.{kind}
use Rattle.qir_module.specs.Reader.{◌▹◌, block_kinds, read_block, read_right_brace, read_blocks}
use Rattle.qir_reader.specs.Parts.{read_some_blocks}
use Rattle.qir_reader.proofs.Separated.{some_then}

blocks_are : (old : List Token) → read_blocks old ≡ and_then (read_some_blocks old) (λ bs. read_right_brace ▹ done bs)
unfolding read_blocks
blocks_are old = sym (some_then (among kind block_kinds) read_block read_block (λ bs. read_right_brace ▹ done bs) old)

pub blocks_on : (old mid : List Token) (bs : List Block) → read_some_blocks old ≡ Ok (bs, mid) → read_blocks old ≡ and_then (read_right_brace mid) (λ t. done bs)
blocks_on old mid bs e = blocks_are old ∙ ap (λ out. and_then out (λ bs. read_right_brace ▹ done bs)) e

pub blocks_fail : (old : List Token) (e : Refusal Token) → read_some_blocks old ≡ Err e → read_blocks old ≡ Err e
blocks_fail old e f = blocks_are old ∙ ap (λ out. and_then out (λ bs. read_right_brace ▹ done bs)) f
