-- What more turns and further outcomes do to the parts of a run.
use Rattle.std.proofs.Common.{◌≡◌, ℕ, ◌+◌, ◌≤◌, Bool, true, false, List, [], ◌∷◌, ◌++◌, Option, Some, None, refl, sym, ap, ◌∙◌, subst, append_assoc, arith}
use Rattle.qq_base.specs.declared.run.Event.{Event}
use Rattle.qasm_types.specs.declared.ty.Ty.{Ty}
use Rattle.const_eval.specs.Values.{Frames}
use Rattle.source_meaning.specs.Laws.{Begins}
use Rattle.source_meaning.specs.Flow.{Flow, Next, Broke, Continued, Returned, Ending, Asking, Spent, Out, Runs, flows, goes_on, behind, on_next, looped, closed, in_scope, choose}
use Rattle.source_meaning.specs.Storing.{Into}
use Rattle.source_meaning.specs.Run.{called}

abbrev pub out : Flow → Frames → List Bool → ℕ → List Event → Out
out flow frames outcomes turns events = record { flow = flow; frames = frames; outcomes = outcomes; turns = turns; events = events }

pub begins_itself : (events longer : List Event) → longer ≡ events → Begins events longer
begins_itself events longer e = ([], e ∙ sym (append_nothing events))
  where
    append_nothing : (es : List Event) → es ++ [] ≡ es
    append_nothing [] = refl
    append_nothing (x ∷ es) = ap (λ (l : List Event). x ∷ l) (append_nothing es)

begins_behind : (front events longer : List Event) → Begins events longer → Begins (front ++ events) (front ++ longer)
begins_behind front events longer b = (b.0, ap (λ (l : List Event). front ++ l) b.1 ∙ sym (append_assoc front events b.0))

begins_with : (events longer behind_it : List Event) → Begins events longer → Begins events (longer ++ behind_it)
begins_with events longer behind_it b = (b.0 ++ behind_it, ap (λ (l : List Event). l ++ behind_it) b.1 ∙ append_assoc events b.0 behind_it)

-- what follows never takes an event back
begins_next : (events : List Event) (f : Flow) (frames : Frames) (outcomes : List Bool) (turns : ℕ) (longer : List Event) (go : Runs) →
    Begins events longer → Begins events (on_next (out f frames outcomes turns longer) go).events
begins_next events Next frames outcomes turns longer go b = begins_with events longer (go frames outcomes turns).events b
begins_next events Broke frames outcomes turns longer go b = b
begins_next events Continued frames outcomes turns longer go b = b
begins_next events (Returned v) frames outcomes turns longer go b = b
begins_next events Ending frames outcomes turns longer go b = b
begins_next events (Asking place) frames outcomes turns longer go b = b
begins_next events (Spent place) frames outcomes turns longer go b = b

begins_looped : (events : List Event) (f : Flow) (frames : Frames) (outcomes : List Bool) (turns : ℕ) (longer : List Event) (go : Runs) →
    Begins events longer → Begins events (looped (out f frames outcomes turns longer) go).events
begins_looped events Next frames outcomes turns longer go b = begins_with events longer (go frames outcomes turns).events b
begins_looped events Broke frames outcomes turns longer go b = b
begins_looped events Continued frames outcomes turns longer go b = begins_with events longer (go frames outcomes turns).events b
begins_looped events (Returned v) frames outcomes turns longer go b = b
begins_looped events Ending frames outcomes turns longer go b = b
begins_looped events (Asking place) frames outcomes turns longer go b = b
begins_looped events (Spent place) frames outcomes turns longer go b = b

begins_called : (events : List Event) (result : Option Ty) (into : Into) (f : Flow) (frames : Frames) (outcomes : List Bool) (turns : ℕ) (longer : List Event) →
    Begins events longer → Begins events (called result into (out f frames outcomes turns longer)).events
begins_called events result into Next frames outcomes turns longer b = b
begins_called events result into Broke frames outcomes turns longer b = b
begins_called events result into Continued frames outcomes turns longer b = b
begins_called events result into (Returned None) frames outcomes turns longer b = b
begins_called events result into (Returned (Some v)) frames outcomes turns longer b = b
begins_called events result into Ending frames outcomes turns longer b = b
begins_called events result into (Asking place) frames outcomes turns longer b = b
begins_called events result into (Spent place) frames outcomes turns longer b = b

module _ (others : List Bool) (extra : ℕ) where
  -- the same, with more left over
  abbrev pub with_more : Out → Out
  with_more o = record o { outcomes = o.outcomes ++ others; turns = o.turns + extra }

  -- What a part comes to with more: where it asks, or has no turn left, its events are a beginning, and else it is the same.
  abbrev pub ComesTo : Flow → Out → Out → Type 0
  ComesTo (Asking place) o longer = Begins o.events longer.events
  ComesTo (Spent place) o longer = Begins o.events longer.events
  ComesTo f o longer = longer ≡ with_more o

  abbrev pub Extends : Out → Out → Type 0
  Extends o longer = ComesTo o.flow o longer

  -- ---- the combinators

  pub flows_extends : (f : Flow) (frames : Frames) (outcomes : List Bool) (turns : ℕ) → Extends (flows f frames outcomes turns) (flows f frames (outcomes ++ others) (turns + extra))
  flows_extends Next frames outcomes turns = refl
  flows_extends Broke frames outcomes turns = refl
  flows_extends Continued frames outcomes turns = refl
  flows_extends (Returned v) frames outcomes turns = refl
  flows_extends Ending frames outcomes turns = refl
  flows_extends (Asking place) frames outcomes turns = ([], refl)
  flows_extends (Spent place) frames outcomes turns = ([], refl)

  behind_at : (f : Flow) (front : List Event) (o longer : Out) → ComesTo f o longer → ComesTo f (behind front o) (behind front longer)
  behind_at Next front o longer e = ap (behind front) e
  behind_at Broke front o longer e = ap (behind front) e
  behind_at Continued front o longer e = ap (behind front) e
  behind_at (Returned v) front o longer e = ap (behind front) e
  behind_at Ending front o longer e = ap (behind front) e
  behind_at (Asking place) front o longer b = begins_behind front o.events longer.events b
  behind_at (Spent place) front o longer b = begins_behind front o.events longer.events b

  pub behind_extends : (front : List Event) (o longer : Out) → Extends o longer → Extends (behind front o) (behind front longer)
  behind_extends front o longer h = behind_at o.flow front o longer h

  closed_at : (f : Flow) (o longer : Out) → ComesTo f o longer → ComesTo f (closed o) (closed longer)
  closed_at Next o longer e = ap closed e
  closed_at Broke o longer e = ap closed e
  closed_at Continued o longer e = ap closed e
  closed_at (Returned v) o longer e = ap closed e
  closed_at Ending o longer e = ap closed e
  closed_at (Asking place) o longer b = b
  closed_at (Spent place) o longer b = b

  pub closed_extends : (o longer : Out) → Extends o longer → Extends (closed o) (closed longer)
  closed_extends o longer h = closed_at o.flow o longer h

  -- one part after another
  module _ (frames : Frames) (outcomes : List Bool) (turns : ℕ) (events : List Event) (longer : Out) (go go' : Runs) (later : Extends (go frames outcomes turns) (go' frames (outcomes ++ others) (turns + extra))) where
    abbrev Follows : (Out → Runs → Out) → Flow → Out → Type 0
    Follows join f l = Extends (join (out f frames outcomes turns events) go) (join l go')

    next_at : (f : Flow) → Extends (out f frames outcomes turns events) longer → Follows on_next f longer
    next_at Next e = subst (Follows on_next Next) (sym e) (behind_extends events (go frames outcomes turns) (go' frames (outcomes ++ others) (turns + extra)) later)
    next_at Broke e = subst (Follows on_next Broke) (sym e) refl
    next_at Continued e = subst (Follows on_next Continued) (sym e) refl
    next_at (Returned v) e = subst (Follows on_next (Returned v)) (sym e) refl
    next_at Ending e = subst (Follows on_next Ending) (sym e) refl
    next_at (Asking place) b = begins_next events longer.flow longer.frames longer.outcomes longer.turns longer.events go' b
    next_at (Spent place) b = begins_next events longer.flow longer.frames longer.outcomes longer.turns longer.events go' b

    looped_at : (f : Flow) → Extends (out f frames outcomes turns events) longer → Follows looped f longer
    looped_at Next e = subst (Follows looped Next) (sym e) (behind_extends events (go frames outcomes turns) (go' frames (outcomes ++ others) (turns + extra)) later)
    looped_at Broke e = subst (Follows looped Broke) (sym e) refl
    looped_at Continued e = subst (Follows looped Continued) (sym e) (behind_extends events (go frames outcomes turns) (go' frames (outcomes ++ others) (turns + extra)) later)
    looped_at (Returned v) e = subst (Follows looped (Returned v)) (sym e) refl
    looped_at Ending e = subst (Follows looped Ending) (sym e) refl
    looped_at (Asking place) b = begins_looped events longer.flow longer.frames longer.outcomes longer.turns longer.events go' b
    looped_at (Spent place) b = begins_looped events longer.flow longer.frames longer.outcomes longer.turns longer.events go' b

  pub next_extends : (o longer : Out) (go go' : Runs) → Extends o longer → Extends (go o.frames o.outcomes o.turns) (go' o.frames (o.outcomes ++ others) (o.turns + extra))
      → Extends (on_next o go) (on_next longer go')
  next_extends o longer go go' h later = next_at o.frames o.outcomes o.turns o.events longer go go' later o.flow h

  pub looped_extends : (o longer : Out) (go go' : Runs) → Extends o longer → Extends (go o.frames o.outcomes o.turns) (go' o.frames (o.outcomes ++ others) (o.turns + extra))
      → Extends (looped o go) (looped longer go')
  looped_extends o longer go go' h later = looped_at o.frames o.outcomes o.turns o.events longer go go' later o.flow h

  -- behind a called body
  module _ (result : Option Ty) (into : Into) (frames : Frames) (outcomes : List Bool) (turns : ℕ) (events : List Event) (longer : Out) where
    abbrev Returns : Flow → Out → Type 0
    Returns f l = Extends (called result into (out f frames outcomes turns events)) (called result into l)

    called_at : (f : Flow) → Extends (out f frames outcomes turns events) longer → Returns f longer
    called_at Next e = subst (Returns Next) (sym e) refl
    called_at Broke e = subst (Returns Broke) (sym e) refl
    called_at Continued e = subst (Returns Continued) (sym e) refl
    called_at (Returned None) e = subst (Returns (Returned None)) (sym e) refl
    called_at (Returned (Some v)) e = subst (Returns (Returned (Some v))) (sym e) refl
    called_at Ending e = subst (Returns Ending) (sym e) refl
    called_at (Asking place) b = begins_called events result into longer.flow longer.frames longer.outcomes longer.turns longer.events b
    called_at (Spent place) b = begins_called events result into longer.flow longer.frames longer.outcomes longer.turns longer.events b

  pub called_extends : (result : Option Ty) (into : Into) (o longer : Out) → Extends o longer → Extends (called result into o) (called result into longer)
  called_extends result into o longer h = called_at result into o.frames o.outcomes o.turns o.events longer o.flow h

  -- ---- parts of a run

  -- A part of a run goes on where it has more, and spends turns alone.
  pub record Regular (part : Runs) : Type 0 where
    pub extends : (frames : Frames) (outcomes : List Bool) (turns : ℕ) → Extends (part frames outcomes turns) (part frames (outcomes ++ others) (turns + extra))
    pub falls : (frames : Frames) (outcomes : List Bool) (turns : ℕ) → (part frames outcomes turns).turns ≤ turns

  pub regular_flows : (f : Flow) → Regular (flows f)
  regular_flows f = record { extends = flows_extends f; falls = λ frames outcomes turns. omega arith }

  -- with a flow and frames that the frames give
  pub regular_moved : (f : Frames → Flow) (g : Frames → Frames) → Regular (λ frames outcomes turns. flows (f frames) (g frames) outcomes turns)
  regular_moved f g = record { extends = λ frames outcomes turns. flows_extends (f frames) (g frames) outcomes turns; falls = λ frames outcomes turns. omega arith }

  pub regular_goes_on : (f : Frames → Frames) → Regular (goes_on f)
  regular_goes_on f = regular_moved (λ frames. Next) f

  pub regular_behind : (events : Frames → List Event) (part : Runs) → Regular part → Regular (λ frames outcomes turns. behind (events frames) (part frames outcomes turns))
  regular_behind events part r = record {
    extends = λ frames outcomes turns. behind_extends (events frames) (part frames outcomes turns) (part frames (outcomes ++ others) (turns + extra)) (r.extends frames outcomes turns);
    falls = r.falls;
  }

  pub regular_in_scope : (part : Runs) → Regular part → Regular (in_scope part)
  regular_in_scope part r = record {
    extends = λ frames outcomes turns. closed_extends _ _ (r.extends _ outcomes turns);
    falls = λ frames outcomes turns. r.falls _ outcomes turns;
  }

  next_falls : (f : Flow) (frames : Frames) (outcomes : List Bool) (turns : ℕ) (events : List Event) (go : Runs) (most : ℕ)
      → turns ≤ most → (go frames outcomes turns).turns ≤ turns → (on_next (out f frames outcomes turns events) go).turns ≤ most
  next_falls Next frames outcomes turns events go most h later = omega (arith, h, later)
  next_falls Broke frames outcomes turns events go most h later = h
  next_falls Continued frames outcomes turns events go most h later = h
  next_falls (Returned v) frames outcomes turns events go most h later = h
  next_falls Ending frames outcomes turns events go most h later = h
  next_falls (Asking place) frames outcomes turns events go most h later = h
  next_falls (Spent place) frames outcomes turns events go most h later = h

  pub looped_falls : (f : Flow) (frames : Frames) (outcomes : List Bool) (turns : ℕ) (events : List Event) (go : Runs) (most : ℕ)
      → turns ≤ most → (go frames outcomes turns).turns ≤ turns → (looped (out f frames outcomes turns events) go).turns ≤ most
  looped_falls Next frames outcomes turns events go most h later = omega (arith, h, later)
  looped_falls Broke frames outcomes turns events go most h later = h
  looped_falls Continued frames outcomes turns events go most h later = omega (arith, h, later)
  looped_falls (Returned v) frames outcomes turns events go most h later = h
  looped_falls Ending frames outcomes turns events go most h later = h
  looped_falls (Asking place) frames outcomes turns events go most h later = h
  looped_falls (Spent place) frames outcomes turns events go most h later = h

  pub called_falls : (result : Option Ty) (into : Into) (f : Flow) (frames : Frames) (outcomes : List Bool) (turns : ℕ) (events : List Event)
      → (called result into (out f frames outcomes turns events)).turns ≡ turns
  called_falls result into Next frames outcomes turns events = refl
  called_falls result into Broke frames outcomes turns events = refl
  called_falls result into Continued frames outcomes turns events = refl
  called_falls result into (Returned None) frames outcomes turns events = refl
  called_falls result into (Returned (Some v)) frames outcomes turns events = refl
  called_falls result into Ending frames outcomes turns events = refl
  called_falls result into (Asking place) frames outcomes turns events = refl
  called_falls result into (Spent place) frames outcomes turns events = refl

  pub regular_next : (part rest : Runs) → Regular part → Regular rest → Regular (λ frames outcomes turns. on_next (part frames outcomes turns) rest)
  regular_next part rest r s = record {
    extends = λ frames outcomes turns. let o = part frames outcomes turns in next_extends o (part frames (outcomes ++ others) (turns + extra)) rest rest (r.extends frames outcomes turns) (s.extends o.frames o.outcomes o.turns);
    falls = λ frames outcomes turns. let o = part frames outcomes turns in next_falls o.flow o.frames o.outcomes o.turns o.events rest turns (r.falls frames outcomes turns) (s.falls o.frames o.outcomes o.turns);
  }

  choose_extends : (b : Bool) (one other : Runs) (frames : Frames) (outcomes : List Bool) (turns : ℕ) → Regular one → Regular other
      → Extends (choose b one other frames outcomes turns) (choose b one other frames (outcomes ++ others) (turns + extra))
  choose_extends true one other frames outcomes turns r s = r.extends frames outcomes turns
  choose_extends false one other frames outcomes turns r s = s.extends frames outcomes turns

  choose_falls : (b : Bool) (one other : Runs) (frames : Frames) (outcomes : List Bool) (turns : ℕ) → Regular one → Regular other → (choose b one other frames outcomes turns).turns ≤ turns
  choose_falls true one other frames outcomes turns r s = r.falls frames outcomes turns
  choose_falls false one other frames outcomes turns r s = s.falls frames outcomes turns

  -- one of two parts, and each of them may rest on the frames
  pub regular_choose : (b : Frames → Bool) (one other : Frames → Runs) → ((frames : Frames) → Regular (one frames)) → ((frames : Frames) → Regular (other frames))
      → Regular (λ frames outcomes turns. choose (b frames) (one frames) (other frames) frames outcomes turns)
  regular_choose b one other r s = record {
    extends = λ frames outcomes turns. choose_extends (b frames) (one frames) (other frames) frames outcomes turns (r frames) (s frames);
    falls = λ frames outcomes turns. choose_falls (b frames) (one frames) (other frames) frames outcomes turns (r frames) (s frames);
  }
