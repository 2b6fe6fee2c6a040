use Rattle.std.proofs.Common.{◌≡◌, map, refl, subst}
use Rattle.std.proofs.lemmas.Result.{err_from_is_err_and}
use Rattle.qir_module.specs.Grammar.{is_right}
use Rattle.qir_reader.specs.Headings.{type_of, types_of}
use Rattle.qir_reader.proofs.Signed.{signature_is, signature_fails}
use Rattle.qir_reader.proofs.cursor.Cursor.signature.Goals as goal

pub returns-in_err-takes : goal.returns-in_err-takes
returns-in_err-takes c =
    let p = err_from_is_err_and c.from_residual-in_err-takes.result c.from_residual-in_err-takes.ensures.1 in
    rw (p.1, p.2) (λ other.
    signature_fails _ _ _ _ _ _ _ c.in_ok-word.ensures.read c.in_ok-gives.ensures c.in_ok-function.ensures _ (c.in_err-takes.ensures other))

pub returns : goal.returns
returns c = record {
  value = record { function = c.in_ok-function.function; at = c.in_ok-function.at; takes = types_of c.in_ok-takes.takes; gives = c.in_ok-gives.gives; irreversible = c.in_ok-irreversible.irreversible };
  shown = (refl, refl, subst (λ ts. c.is_declared_so-right.result ≡ is_right (record { function = c.in_ok-function.function; at = c.in_ok-function.at; takes = map type_of ts; gives = c.in_ok-gives.gives; irreversible = c.in_ok-irreversible.irreversible })) c.deref.ensures.value (c.is_declared_so-right.ensures c.in_ok-function.at));
  read = signature_is _ _ _ _ _ _ _ c.in_ok-word.ensures.read c.in_ok-gives.ensures c.in_ok-function.ensures _ _ _ _ c.in_ok-takes.ensures c.in_ok-irreversible.ensures;
}
