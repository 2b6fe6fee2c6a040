-- For private contracts only: parts of the graph's state as the code holds them.
use Rattle.std.specs.Prelude.{ℕ, ◌+◌, ◌<◌, ◌≤◌, ◌^◌, Bool, List, [], ◌∷◌, ◌++◌, length, map, filter, slice_set, Option, Some, None}
use Rattle.qir_module.specs.declared.block.Phi.{Phi}
use Rattle.qir_module.specs.declared.function.Function.{Function}
use Rattle.qir_module.specs.declared.instruction.Last.TheVariants.{Jump}
use Rattle.qir_module.specs.Numbered.{counted, is_among}
use Rattle.core_ir.specs.Core.{Core}
use Rattle.core_ir.specs.Tree.{Stmt}
use Rattle.core_ir.specs.declared.expression.CellKind.{CellKind}
use Rattle.phi_place.specs.State.{CellState}
use Rattle.phi_place.specs.Phis.{ways_differ, phis_for, values_for, first_values}
use Rattle.block_graph.specs.Work.{PhiPart, Ready, Late, Open, Work}
use Rattle.block_graph.specs.Lowering.{Coder, closed, way_of, open_first, two_bodies, lower_of}

-- the place of the phis where they are found later, or the phis
abbrev pub phi_part : Option ℕ → List Phi → PhiPart
phi_part None phis = Ready phis
phi_part (Some place) phis = Late place

-- a statement of so many, at a place or behind it
abbrev pub AreLater : ℕ → ℕ → ℕ → Type 0
AreLater least count j = (least ≤ j) × (j < count)

-- the numbers of a graph that leave room for more in 32 bits
pub record IsSmall (w : Work) : Type 0 where
  pub next : w.next < 2 ^ 28
  pub results : w.results < 2 ^ 28
  pub blocks : length w.done < 2 ^ 28
  pub labels : length w.targets < 2 ^ 28

-- a choice whose bodies are lowered in this order
abbrev pub choice_of : Core → Coder → Bool → ℕ → Stmt → Stmt → Work → Open → Work
choice_of core coder holds test first second w o =
    two_bodies core.cells (length w.targets) o.values (lower_of core coder first (open_first coder holds test w o)) (lower_of core coder second)

-- of n functions from k on those that are called
abbrev pub declared_from : List ℕ → ℕ → ℕ → List Function
declared_from called k n = map (λ f. record { 0 = f }) (filter (is_among called) (counted k n))

-- the join of some ways, under a label
abbrev pub joined : List CellKind → ℕ → List CellState → Work → Work
joined kinds label ways w =
    let needs = ways_differ ways in
    let phis = phis_for needs ways kinds 0 w.next in
    record w {
      targets = slice_set w.targets label (length w.done);
      now = Some (record { phis = Ready phis; body = []; values = values_for needs (first_values ways) 0 w.next });
      next = w.next + length phis;
    }

-- the start of a loop, with phis of the cells that need one
abbrev pub looped : List CellKind → (ℕ → Bool) → Work → Open → Work
looped kinds needs w o =
    let phis = phis_for needs (way_of w o ∷ []) kinds 0 w.next in
    record w {
      done = w.done ++ closed o (Jump (length w.targets)) ∷ [];
      now = Some (record { phis = Late (length w.lates); body = []; values = values_for needs o.values 0 w.next });
      next = w.next + length phis;
      targets = w.targets ++ (length w.done + 1) ∷ 0 ∷ [];
      lates = w.lates ++ phis ∷ [];
      ends = record { label = length w.targets + 1; block = 0; ways = [] } ∷ w.ends;
      starts = record { label = length w.targets; block = length w.done + 1; ways = way_of w o ∷ [] } ∷ w.starts;
    }
