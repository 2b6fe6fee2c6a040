-- Parts of the walk that declare nothing leave the scopes as they are, and others change them in one way.
use Rattle.std.proofs.Common.{◌≡◌, ℕ, ◌+◌, Bool, true, false, List, length, refl, sym, ap, ◌∙◌}
use Rattle.std.specs.Prelude.{not, nat_eq, nat_le, Result, Ok, Err}
use Rattle.std.specs.List.{list_any}
use Rattle.qq_base.specs.declared.refusal.Refusal.{Refusal}
use Rattle.qq_base.specs.declared.refusal.Span.{Span}
use Rattle.qq_base.specs.declared.rule.Rule.{Rule}
use Rattle.qq_base.specs.declared.rule.Rule.TheVariants.{Redeclared, TypeMismatch, SizeMismatch, MixedQubits, QubitRange, CellRange, TooManyJoints}
use Rattle.qq_base.specs.declared.run.QubitId.{QubitId}
use Rattle.qasm_ast.specs.Tree.{Name, Operand}
use Rattle.qasm_types.specs.declared.ty.Ty.{Ty}
use Rattle.qasm_types.specs.Types.{cells_of}
use Rattle.alias_resolve.specs.Places.{Selected}
use Rattle.const_eval.specs.Refusing.{where_allowed, go_on}
use Rattle.const_eval.specs.Walk.{Walk, behind, within_budget}
use Rattle.const_eval.specs.Typed.{is_bits}
use Rattle.const_eval.specs.Operands.{operands_walk, wires_of, wires_of_all}
use Rattle.const_eval.specs.Things.{Variable, Known, means_in, named_qubits, cells_in_scope, declared_qubits}
use Rattle.scope_env.specs.OpenScopes.{OpenScopes, Named, is_here}
use Rattle.source_meaning.specs.Library.{included, with_rows}
use Rattle.source_meaning.specs.Walked.{Walked, Walks, gives, after, where_right, looking, charged, walks, with_sum, most_cost, most_joints, spend, join, spend_cells, spend_joint, count_sites, use_wires, in_scopes}
use Rattle.source_meaning.specs.Declarations as declarations
use Rattle.source_meaning.specs.Targets.{acted_walk, walk_acted, same_size, walk_variable, walk_measured_variable}
use Rattle.source_meaning.specs.Source.{walk_end_of_text}

abbrev pub mapped : {A B E : Type 0} → (A → B) → Result A E → Result B E
mapped f (Ok a) = Ok (f a)
mapped f (Err e) = Err e

-- with these scopes
abbrev pub in_these : {A : Type 0} → OpenScopes Known → A × Walked → A × Walked
in_these scopes r = (r.0, record r.1 { scopes = scopes })

-- a part of the walk that leaves the scopes as f says
pub record Renames {A : Type 0} (part : Walks A) (f : OpenScopes Known → OpenScopes Known) : Type 0 where
  pub by : (w : Walked) → part w ≡ mapped (in_these (f w.scopes)) (part w)

-- a part of the walk that leaves the scopes as they are
pub record Keeps {A : Type 0} (part : Walks A) : Type 0 where
  pub by : (w : Walked) → part w ≡ mapped (in_these w.scopes) (part w)

pub keeps_gives : {A : Type 0} (a : A) → Keeps (gives a)
keeps_gives a = record { by = λ w. refl }

pub keeps_charged : {A : Type 0} (statement : Span) (walk : Walk A) → Keeps (charged statement walk)
keeps_charged {A} statement walk = record { by = λ w. at w (within_budget most_cost statement (behind w.cost walk)) }
  where
    at : (w : Walked) (r : Result (A × ℕ) Refusal) → go_on r (with_sum w) ≡ mapped (in_these w.scopes) (go_on r (with_sum w))
    at w (Ok a) = refl
    at w (Err e) = refl

pub keeps_walks : {A : Type 0} (statement : Span) (walk : OpenScopes Known → Walk A) → Keeps (walks statement walk)
keeps_walks statement walk = record { by = λ w. (keeps_charged statement (walk w.scopes)).by w }

pub keeps_looking : {A : Type 0} {part : OpenScopes Known → Walks A} → ((scopes : OpenScopes Known) → Keeps (part scopes)) → Keeps (looking part)
keeps_looking keeps = record { by = λ w. (keeps w.scopes).by w }

pub keeps_after : {A B : Type 0} {part : Walks A} {next : A → Walks B} → Keeps part → ((a : A) → Keeps (next a)) → Keeps (after part next)
keeps_after {A = A} {B = B} {part = part} {next = next} keeps then = record { by = λ w. ap (λ r. go_on r (λ s. next s.0 s.1)) (keeps.by w) ∙ at w (part w) ∙ back w }
  where
    at : (w : Walked) (r : Result (A × Walked) Refusal)
        → go_on (mapped (in_these w.scopes) r) (λ s. next s.0 s.1) ≡ mapped (in_these w.scopes) (go_on (mapped (in_these w.scopes) r) (λ s. next s.0 s.1))
    at w (Ok s) = (then s.0).by (record s.1 { scopes = w.scopes })
    at w (Err e) = refl

    back : (w : Walked) → mapped (in_these w.scopes) (go_on (mapped (in_these w.scopes) (part w)) (λ s. next s.0 s.1)) ≡ mapped (in_these w.scopes) (go_on (part w) (λ s. next s.0 s.1))
    back w = ap (λ r. mapped (in_these w.scopes) (go_on r (λ s. next s.0 s.1))) (sym (keeps.by w))

pub keeps_where : {A : Type 0} (allowed : Bool) (rule : Rule) (place : Span) {part : Walks A} → Keeps part → Keeps (where_right allowed rule place part)
keeps_where true rule place keeps = record { by = keeps.by }
keeps_where false rule place keeps = record { by = λ w. refl }

pub keeps_join : (statement : Span) → Keeps (join statement)
keeps_join statement = record { by = λ w. at w (nat_le (w.joints + 1) most_joints) }
  where
    at : (w : Walked) (b : Bool) → where_allowed b TooManyJoints statement (Ok (tt {0}, record w { joints = w.joints + 1 })) ≡ mapped (in_these w.scopes) (where_allowed b TooManyJoints statement (Ok (tt {0}, record w { joints = w.joints + 1 })))
    at w true = refl
    at w false = refl

pub keeps_spend : (statement : Span) (n : ℕ) → Keeps (spend statement n)
keeps_spend statement n = record { by = λ w. (keeps_charged statement _).by w }

pub keeps_cells : (statement : Span) → Keeps (spend_cells statement)
keeps_cells statement = record { by = λ w. (keeps_spend statement _).by w }

pub keeps_joint : (statement : Span) → Keeps (spend_joint statement)
keeps_joint statement = keeps_after (keeps_cells statement) (λ _. keeps_join statement)

pub keeps_sites : (n : ℕ) → Keeps (count_sites n)
keeps_sites n = record { by = λ w. refl }

pub keeps_wires : (n : ℕ) → Keeps (use_wires n)
keeps_wires n = record { by = λ w. refl }

-- a part that spends what it reads off the sums
pub keeps_end_of_text : (place : Span) → Keeps (walk_end_of_text place)
keeps_end_of_text place = record { by = λ w. (keeps_spend place _).by w }

-- ---- operands, types and conditions

pub keeps_acted : (statement : Span) (o : Operand) → Keeps (walk_acted statement o)
keeps_acted statement o =
    keeps_after (keeps_walks statement (λ scopes. acted_walk scopes o)) (λ s.
    keeps_after (keeps_wires (wires_of o.name)) (λ _.
    keeps_after (keeps_sites (length s.items)) (λ _.
    keeps_gives s)))

pub keeps_operands : (statement : Span) (os : List Operand) → Keeps (declarations.walk_operands statement os)
keeps_operands statement os =
    keeps_after (keeps_walks statement (λ scopes. operands_walk (means_in scopes) (named_qubits scopes) os)) (λ ss.
    keeps_after (keeps_wires (wires_of_all os)) (λ _.
    keeps_gives ss))

-- ---- scopes that change

pub renames_where : {A : Type 0} (allowed : Bool) (rule : Rule) (place : Span) {part : Walks A} {f : OpenScopes Known → OpenScopes Known} → Renames part f → Renames (where_right allowed rule place part) f
renames_where true rule place h = record { by = h.by }
renames_where false rule place h = record { by = λ w. refl }

pub renames_after : {A B : Type 0} {part : Walks A} {next : A → Walks B} {f : OpenScopes Known → OpenScopes Known} → Renames part f → ((a : A) → Keeps (next a)) → Renames (after part next) f
renames_after {A = A} {B = B} {part = part} {next = next} {f = f} h then = record { by = λ w. ap (λ r. go_on r (λ s. next s.0 s.1)) (h.by w) ∙ at w (part w) ∙ back w }
  where
    at : (w : Walked) (r : Result (A × Walked) Refusal)
        → go_on (mapped (in_these (f w.scopes)) r) (λ s. next s.0 s.1) ≡ mapped (in_these (f w.scopes)) (go_on (mapped (in_these (f w.scopes)) r) (λ s. next s.0 s.1))
    at w (Ok s) = (then s.0).by (record s.1 { scopes = f w.scopes })
    at w (Err e) = refl

    back : (w : Walked) → mapped (in_these (f w.scopes)) (go_on (mapped (in_these (f w.scopes)) (part w)) (λ s. next s.0 s.1)) ≡ mapped (in_these (f w.scopes)) (go_on (part w) (λ s. next s.0 s.1))
    back w = ap (λ r. mapped (in_these (f w.scopes)) (go_on r (λ s. next s.0 s.1))) (sym (h.by w))

pub renames_scopes : (f : OpenScopes Known → OpenScopes Known) → Renames (in_scopes f) f
renames_scopes f = record { by = λ w. refl }

-- ---- declarations

pub renames_declare : (name : Name) (thing : Known) → Renames (declarations.declare name thing) (Named name.text thing)
renames_declare name thing = record {
  by = λ w.
      (renames_where (not (is_here name.text w.scopes)) Redeclared name.place (
      renames_after (renames_scopes (Named name.text thing)) (λ _.
      keeps_looking (λ inner. keeps_where (nat_le (cells_in_scope inner) declarations.most_cells) CellRange name.place (keeps_gives tt))))).by w;
}

pub renames_include : (place : Span) → Renames (declarations.walk_include place) (with_rows included)
renames_include place = record {
  by = λ w. (renames_where (not (list_any (λ (entry : List ℕ × ℕ). is_here entry.0 w.scopes) included)) Redeclared place (renames_scopes (with_rows included))).by w;
}

-- the scopes behind a declaration of qubits
abbrev pub with_qubits : Name → ℕ → Bool → OpenScopes Known → OpenScopes Known
with_qubits name n single scopes = Named name.text (declarations.some_qubits (declared_qubits scopes) n single) scopes

pub renames_qubits : (name : Name) (n : ℕ) (single : Bool) → Renames (declarations.walk_new_qubits name n single) (with_qubits name n single)
renames_qubits name n single = record {
  by = λ w.
      (renames_where (not (is_here name.text w.scopes)) Redeclared name.place (
      renames_where (nat_eq w.wires 0) MixedQubits name.place (
      renames_where (nat_le (declared_qubits w.scopes + n) 1024) QubitRange name.place (
      renames_scopes (with_qubits name n single))))).by w;
}

renames_variable : (statement : Span) (name : Name) (type : Ty) → Renames (walk_variable statement name type) (Named name.text (Variable type tt))
renames_variable statement name type = renames_after (renames_declare name (Variable type tt)) (λ _. keeps_spend statement (cells_of type))

pub renames_measured : (statement : Span) (name : Name) (type : Ty) (s : Selected QubitId) → Renames (walk_measured_variable statement name type s) (Named name.text (Variable type tt))
renames_measured statement name type s = record {
  by = λ w.
      (renames_where (not (is_here name.text w.scopes)) Redeclared name.place (
      renames_where (is_bits type) TypeMismatch name.place (
      renames_where (same_size type s) SizeMismatch name.place (
      renames_variable statement name type)))).by w;
}
