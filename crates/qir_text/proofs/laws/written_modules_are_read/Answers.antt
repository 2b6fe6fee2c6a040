use Rattle.qir_text.proofs.Known.{Known}
use Rattle.qir_text.proofs.Spelled.{spelled}
use Rattle.qir_text.proofs.laws.written_modules_are_read.Goals as goal

pub returns : goal.returns
returns c =
    let known : Known = record {
      differ = c.function_names_differ.ensures;
      row = c.functions_have_names.ensures;
      numeral = c.decimals_are_numerals.ensures;
      meant = c.escaped_bytes_are_meant.ensures;
    } in
    spelled known c.canonical_texts_have_tokens.ensures
