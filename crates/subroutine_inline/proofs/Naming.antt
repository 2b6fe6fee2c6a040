-- The subroutine that a name calls, and what names mean in its definition.
use Rattle.std.proofs.Common.{◌≡◌, ℕ, ◌<◌, ◌≤◌, true, false, List, [], map, length, Option, Some, None, Result, Ok, Err, IfOk, refl, sym, ap, ◌∙◌}
use Rattle.std.specs.Option.{unwrap_or}
use Rattle.std.proofs.lemmas.Bool.{lt-ltb, le-ltb}
use Rattle.qq_base.specs.declared.refusal.Fault.{Fault}
use Rattle.qq_base.specs.declared.refusal.Fault.TheVariants as fault
use Rattle.qq_base.specs.declared.refusal.Refusal.{Refusal}
use Rattle.qq_base.specs.declared.refusal.Span.{Span}
use Rattle.qq_base.specs.declared.rule.Rule.TheVariants.{WrongKind, Recursion, CallDepth}
use Rattle.qasm_ast.specs.declared.expr.TypeRef.{TypeRef}
use Rattle.qasm_ast.specs.declared.stmt.Declared.{Declared}
use Rattle.qasm_ast.specs.declared.stmt.Stmt.{Stmt}
use Rattle.qasm_ast.specs.declared.stmt.StmtId.{StmtId}
use Rattle.qasm_ast.specs.declared.stmt.StmtKind.{StmtKind}
use Rattle.qasm_ast.specs.declared.stmt.StmtKind.TheVariants as s
use Rattle.qasm_ast.specs.Tree.{stmt_of, if_some}
use Rattle.qasm_ast.specs.View.{tree_in, parameter_in, scalar_in, statement_in, statements_in, stmt_in}
use Rattle.qasm_ast.specs.Whole.{Source}
use Rattle.const_eval.specs.Answers.{Answers}
use Rattle.const_eval.specs.Meaning.{Meaning}
use Rattle.const_eval.specs.Refusing.{refused, go_on}
use Rattle.const_eval.specs.Things.{Subroutine}
use Rattle.gate_arguments.specs.Scope.{Declarations, Scope, body_scope, is_open}
use Rattle.subroutine_inline.specs.Bound.{means_inside}
use Rattle.subroutine_inline.specs.Called.{opened_call, subroutine_of}
use Rattle.subroutine_inline.specs.Seen.{no_subroutine, subroutine_in}

module _ (p : Source) (opened : List StmtId) (place : Span) (def : StmtId) (stmt : Stmt) (seen : statement_in p def.0 ≡ stmt_in p stmt) where
  module _ (name : Declared) (params : List (TypeRef × Declared)) (result : Option TypeRef) (body : List StmtId) (is : stmt.kind ≡ s.Def name params result body) where
    abbrev defined : Subroutine
    defined = record { params = map (parameter_in p) params; result = if_some (scalar_in p) result; body = statements_in p body; close = stmt.close }

    is_defined : subroutine_of (statement_in p def.0) ≡ Some defined
    is_defined = rw (seen, is) refl

    is_it : subroutine_in p def ≡ defined
    is_it = ap (λ (o : Option Subroutine). unwrap_or o no_subroutine) is_defined

    is_subroutine : subroutine_of (statement_in p def.0) ≡ Some (subroutine_in p def)
    is_subroutine = is_defined ∙ ap (λ (f : Subroutine). Some f) (sym is_it)

    pub params_are : (subroutine_in p def).params ≡ map (parameter_in p) params
    params_are = ap (λ (o : Option Subroutine). (unwrap_or o no_subroutine).params) is_defined

    pub result_is : (subroutine_in p def).result ≡ if_some (scalar_in p) result
    result_is = ap (λ (o : Option Subroutine). (unwrap_or o no_subroutine).result) is_defined

    pub calls : is_open def opened ≡ false → length opened < 16 → opened_call opened place def (subroutine_of (statement_in p def.0)) ≡ Ok (record { id = def; subroutine = subroutine_in p def })
    calls closed lt = ap (opened_call opened place def) is_subroutine ∙ rw (closed, lt-ltb (length opened) 16 lt) refl

    pub calls_itself : is_open def opened ≡ true → opened_call opened place def (subroutine_of (statement_in p def.0)) ≡ refused Recursion place
    calls_itself open' = ap (opened_call opened place def) is_subroutine ∙ rw open' refl

    pub calls_deep : is_open def opened ≡ false → 16 ≤ length opened → opened_call opened place def (subroutine_of (statement_in p def.0)) ≡ refused CallDepth place
    calls_deep closed le = ap (opened_call opened place def) is_subroutine ∙ rw (closed, le-ltb (length opened) 16 le) refl

  no_definition : (kind : StmtKind) (at close : Span) → ((name : Declared) (params : List (TypeRef × Declared)) (result : Option TypeRef) (body : List StmtId) → kind ≡ s.Def name params result body → ⊥)
      → subroutine_of (stmt_of p.names (tree_in p) (statement_in p) kind at close) ≡ None
  no_definition (s.Def name params result body) at close other = absurd (other name params result body refl)
  no_definition _ at close other = refl

  pub calls_other : ((name : Declared) (params : List (TypeRef × Declared)) (result : Option TypeRef) (body : List StmtId) → stmt.kind ≡ s.Def name params result body → ⊥)
      → opened_call opened place def (subroutine_of (statement_in p def.0)) ≡ refused WrongKind place
  calls_other other =
      let none : subroutine_of (statement_in p def.0) ≡ None = rw seen (no_definition stmt.kind stmt.at stmt.close other) in
      ap (opened_call opened place def) none

-- ---- the types of a definition

abbrev right : {A : Type 0} → A → Result A Refusal
right a = Ok a

means_of_scope : (declared : Declarations) (opened : List StmtId) (id : StmtId) (x : Scope) → right (body_scope declared opened id []) ≡ right x → right (means_inside declared id) ≡ right x.means
means_of_scope declared opened id x e = ap (λ (r : Result Scope Refusal). go_on r (λ (s : Scope). right s.means)) e

-- what the scope of a body without parameters says of names
pub means_answer : {S R : Type 0} (env_of : S → R) (outer : R) (view : S → Scope) (means_at : R → S → List ℕ → Meaning) → ((s : S) → (view s).means ≡ means_at outer s)
    → (declared : Declarations) (opened : List StmtId) (id : StmtId) (result : Result S Fault) → IfOk result (λ s. env_of s ≡ outer)
    → Answers view result (right (body_scope declared opened id [])) → Answers (λ s. means_at (env_of s) s) result (right (means_inside declared id))
means_answer env_of outer view means_at same declared opened id (Ok s) h e = means_of_scope declared opened id (view s) e ∙ ap right (same s ∙ ap (λ r. means_at r s) (sym h))
means_answer env_of outer view means_at same declared opened id (Err fault.Memory) h e = tt
means_answer env_of outer view means_at same declared opened id (Err (fault.Refused r)) h e = absurd cc
