-- That an environment with an entry for each name and each definition answers what is asked of it.
use Rattle.std.proofs.Common.{◌≡◌, ℕ, ◌<◌, ◌≤◌, List, length, get_or, Bool, true, false, refl, subst, arith}
use Rattle.std.specs.Prelude.{nat_lt}
use Rattle.std.specs.List.{slice_get, All}
use Rattle.std.proofs.lemmas.Option.{slice_get-get_or, slice_get_past}
use Rattle.std.proofs.lemmas.Bool.Decides.{nat_tests}
use Rattle.std.proofs.lemmas.List.Elements.{All-get_or}
use Rattle.qasm_ast.specs.Whole.{Source}
use Rattle.qasm_ast.specs.declared.stmt.Stmt.{Stmt}
use Rattle.const_eval.specs.Seen.{HasNames}
use Rattle.gate_arguments.specs.Answering.{IsDefinition, CallableFits, InsideFits, HasCallables, HasInside}
use Rattle.gate_cases.specs.declared.env.Named.{Named}
use Rattle.gate_cases.specs.declared.env.Named.TheVariants as n
use Rattle.gate_cases.specs.declared.env.Entry.{Entry}
use Rattle.gate_cases.specs.Told.{numbered, rows, meaning_told, callable_told, inside_told}
use Rattle.gate_cases.proofs.Found.{found_entry}
use Rattle.gate_cases.proofs.Inside.{found_inside}

no_entry : Entry
no_entry = record { named = n.Unknown; order = 0 }

pub names_told : (p : Source) (entries : List Entry) → length entries ≡ length p.names → HasNames p (numbered meaning_told 0 entries)
names_told p entries e k lt =
    let within : k < length entries = omega arith in
    rw (found_entry meaning_told k entries (get_or entries k no_entry) (slice_get-get_or entries k no_entry within)) refl

pub callables_told : (p : Source) (entries : List Entry) → length entries ≡ length p.names → All (λ (e : Entry). CallableFits p (callable_told e)) entries → HasCallables p (numbered callable_told 0 entries)
callables_told p entries e fit k lt =
    let within : k < length entries = omega arith in
    rw (found_entry callable_told k entries (get_or entries k no_entry) (slice_get-get_or entries k no_entry within)) (All-get_or (λ (e : Entry). CallableFits p (callable_told e)) entries k no_entry within fit)

-- what fits where it is called fits in a definition
inside_fits : (p : Source) (named : Named) (order at : ℕ) (b : Bool) → CallableFits p (callable_told (record { named = named; order = at })) → nat_lt order at ≡ b → InsideFits p (inside_told order (record { named = named; order = at }))
inside_fits p named order at true fits e = rw e tt
inside_fits p (n.Held value) order at false fits e = rw e tt
inside_fits p n.Running order at false fits e = rw e tt
inside_fits p (n.Qubits ids single) order at false fits e = rw e tt
inside_fits p (n.Row gate) order at false fits e = rw e fits
inside_fits p (n.Gate def) order at false fits e = rw e fits
inside_fits p (n.Subroutine def) order at false fits e = rw e tt
inside_fits p n.Unknown order at false fits e = rw e tt

-- a definition is one of the statements
defined_within : (stmts : List Stmt) (d : ℕ) → IsDefinition (slice_get stmts d) → d < length stmts
defined_within stmts d is = in_place (nat_lt d (length stmts)) refl
  where
    in_place : (b : Bool) → nat_lt d (length stmts) ≡ b → d < length stmts
    in_place true e = grind (arith, nat_tests)
    in_place false e =
        let past : length stmts ≤ d = grind (arith, nat_tests) in
        absurd (subst IsDefinition (slice_get_past stmts d past) is)

pub insides_told : (p : Source) (entries : List Entry) (orders : List ℕ) → length entries ≡ length p.names → length orders ≡ length p.stmts
    → All (λ (e : Entry). CallableFits p (callable_told e)) entries → HasInside p (rows 0 orders entries)
insides_told p entries orders e e' fit d k is lt =
    let defined : d < length p.stmts = defined_within p.stmts d is in
    let here : d < length orders = omega arith in
    let within : k < length entries = omega arith in
    let entry : Entry = get_or entries k no_entry in
    let order : ℕ = get_or orders d 0 in
    let fits : CallableFits p (callable_told entry) = All-get_or (λ (e : Entry). CallableFits p (callable_told e)) entries k no_entry within fit in
    rw (found_inside d k order orders entries entry (slice_get-get_or orders d 0 here) (slice_get-get_or entries k no_entry within)) (inside_fits p entry.named order entry.order (nat_lt order entry.order) fits refl)
