-- The table of functions at rows that are worked by hand: gates without arguments, with one and with four, and the
-- gate `U`, whose function is written `u`.
use Rattle.std.specs.Prelude.{◌≡◌, refl, length, Some, None, codes}
use Rattle.std.specs.Option.{option_map}
use Rattle.qir_module.specs.Functions.{ApplyGate, Row, rows, row_of}
use Rattle.qir_module.specs.Written.{declaration_text}
use Rattle.qir_module.specs.Text.{line}
use Rattle.qir_module.proofs.Worked.{function}

pub table_length : length rows ≡ 37
table_length = refl

pub no_function_37 : row_of 37 ≡ None
no_function_37 = refl

pub x_text : declaration_text (function 7) ≡ line (codes "declare void @__quantum__qis__x__body(ptr)")
x_text = refl

pub sxdg_text : declaration_text (function 16) ≡ line (codes "declare void @__quantum__qis__sxdg__body(ptr)")
sxdg_text = refl

pub rz_text : declaration_text (function 21) ≡ line (codes "declare void @__quantum__qis__rz_turn__body(i64, ptr)")
rz_text = refl

pub cswap_text : declaration_text (function 32) ≡ line (codes "declare void @__quantum__qis__cswap__body(ptr, ptr, ptr)")
cswap_text = refl

pub u_text : declaration_text (function 33) ≡ line (codes "declare void @__quantum__qis__u_turn__body(i64, i64, i64, ptr)")
u_text = refl

pub cu_text : declaration_text (function 36) ≡ line (codes "declare void @__quantum__qis__cu_turn__body(i64, i64, i64, i64, ptr, ptr)")
cu_text = refl

pub reset_text : declaration_text (function 5) ≡ line (codes "declare void @__quantum__qis__reset__body(ptr) #1")
reset_text = refl

pub cu_task : option_map (λ (row : Row). row.task) (row_of 36) ≡ Some (ApplyGate 29)
cu_task = refl
