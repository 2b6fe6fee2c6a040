-- Loops over the items of a block and over declarations: what was read so far.
use Rattle.std.proofs.Common.{◌≡◌, ℕ, ◌+◌, ◌-◌, ◌<◌, ◌≤◌, ◌&&◌, Bool, true, false, cond, nat_eq, List, [], ◌∷◌, ◌++◌, length, Option, Some, None, Ok, Err, refl, sym, ap, ◌∙◌, subst, arith}
use Rattle.std.proofs.lemmas.List.{map-append}
use Rattle.std.proofs.Math.Dec.{eqb-suc-zero}
use Rattle.grammar_parts.specs.Reading.{Refusal, heads}
use Rattle.grammar_parts.specs.Kinds.{among}
use Rattle.qir_module.specs.declared.block.Phi.{Phi}
use Rattle.qir_module.specs.declared.instruction.Instr.{Instr}
use Rattle.qir_module.specs.declared.function.Function.{Function}
use Rattle.qir_module.specs.Tokens.{Token}
use Rattle.qir_module.specs.Words.{kind}
use Rattle.qir_module.specs.Grammar.{Item, AsPhi, AsInstr, phis_of, instrs_of, Signature, is_right, functions_of}
use Rattle.qir_module.specs.Spoilt.{first_wrong}
use Rattle.qir_module.specs.Reader.{item_kinds, read_item, next_phis, read_items_from, signature_kinds, read_signature, read_signature_behind, still_right, read_signatures_from}
use Rattle.qir_reader.proofs.Going.{Going, going_first, going_stops, going_ends, going_on, going_fails}

-- ---- items

phis_more : (items : List Item) (p : Phi) → phis_of (items ++ AsPhi p ∷ []) ≡ phis_of items ++ p ∷ []
phis_more [] p = refl
phis_more (AsPhi q ∷ items) p = ap (λ l. q ∷ l) (phis_more items p)
phis_more (AsInstr n ∷ items) p = phis_more items p

phis_stay : (items : List Item) (n : Instr) → phis_of (items ++ AsInstr n ∷ []) ≡ phis_of items
phis_stay [] n = refl
phis_stay (AsPhi q ∷ items) n = ap (λ l. q ∷ l) (phis_stay items n)
phis_stay (AsInstr m ∷ items) n = phis_stay items n

instrs_more : (items : List Item) (n : Instr) → instrs_of (items ++ AsInstr n ∷ []) ≡ instrs_of items ++ n ∷ []
instrs_more [] n = refl
instrs_more (AsPhi q ∷ items) n = instrs_more items n
instrs_more (AsInstr m ∷ items) n = ap (λ l. m ∷ l) (instrs_more items n)

instrs_stay : (items : List Item) (p : Phi) → instrs_of (items ++ AsPhi p ∷ []) ≡ instrs_of items
instrs_stay [] p = refl
instrs_stay (AsPhi q ∷ items) p = instrs_stay items p
instrs_stay (AsInstr m ∷ items) p = ap (λ l. m ∷ l) (instrs_stay items p)

-- the items that were read so far, by their phis and their instructions
pub record ItemsSoFar (old : List Token) (n : ℕ) (phis : List Phi) (body : List Instr) (ts : List Token) : Type 0 where
  pub items : List Item
  pub phis_are : phis ≡ phis_of items
  pub body_is : body ≡ instrs_of items
  pub going : Going (λ s. among kind item_kinds) read_item next_phis (read_items_from (length old) true old) n (nat_eq (length body) 0) items ts

pub items_first : (old : List Token) (n : ℕ) → n ≡ length old → ItemsSoFar old (n - 0) [] [] old
items_first old n e =
    let all : n - 0 ≡ length old = omega (arith, e) in
    record {
      items = [];
      phis_are = refl;
      body_is = refl;
      going = subst (λ k. Going (λ s. among kind item_kinds) read_item next_phis (read_items_from (length old) true old) k true [] old) (sym all) (going_first (λ s. among kind item_kinds) read_item next_phis (length old) true old);
    }

module _ {old ts : List Token} {phis : List Phi} {body : List Instr} where
  pub items_stop : {n : ℕ} (h : ItemsSoFar old n phis body ts) → heads (among kind item_kinds) ts ≡ false → read_items_from (length old) true old ≡ Ok (h.items, ts)
  items_stop h e = going_stops (λ s. among kind item_kinds) read_item next_phis h.going e

  pub items_end : (n i : ℕ) (h : ItemsSoFar old (n - i) phis body ts) → n ≤ i → read_items_from (length old) true old ≡ Ok (h.items, ts)
  items_end n i h l = going_ends (λ s. among kind item_kinds) read_item next_phis h.going l

  pub items_fail : (n i : ℕ) (s : Bool) {e : Refusal Token} (h : ItemsSoFar old (n - i) phis body ts) → i < n → heads (among kind item_kinds) ts ≡ true → s ≡ nat_eq (length body) 0 → read_item s ts ≡ Err e
      → read_items_from (length old) true old ≡ Err e
  items_fail n i s {e} h l seen is fails = going_fails (λ s. among kind item_kinds) read_item next_phis h.going l seen (subst (λ b. read_item b ts ≡ Err e) is fails)

  pub items_phi : (n i : ℕ) (s : Bool) {rest : List Token} (p : Phi) (h : ItemsSoFar old (n - i) phis body ts) → i < n → heads (among kind item_kinds) ts ≡ true → s ≡ nat_eq (length body) 0 → read_item s ts ≡ Ok (AsPhi p, rest)
      → ItemsSoFar old (n - (i + 1)) (phis ++ p ∷ []) body rest
  items_phi n i s {rest} p h l seen is read =
      let next = going_on (λ s. among kind item_kinds) read_item next_phis h.going l seen (subst (λ b. read_item b ts ≡ Ok (AsPhi p, rest)) is read) in
      record {
        items = h.items ++ AsPhi p ∷ [];
        phis_are = ap (λ l. l ++ p ∷ []) h.phis_are ∙ sym (phis_more h.items p);
        body_is = h.body_is ∙ sym (instrs_stay h.items p);
        going = subst (λ b. Going (λ s. among kind item_kinds) read_item next_phis (read_items_from (length old) true old) (n - (i + 1)) b (h.items ++ AsPhi p ∷ []) rest) (kept (nat_eq (length body) 0)) next;
      }
    where
      kept : (b : Bool) → (b && true) ≡ b
      kept true = refl
      kept false = refl

  pub items_instr : (n i : ℕ) (s : Bool) {rest : List Token} (x : Instr) (h : ItemsSoFar old (n - i) phis body ts) → i < n → heads (among kind item_kinds) ts ≡ true → s ≡ nat_eq (length body) 0 → read_item s ts ≡ Ok (AsInstr x, rest)
      → ItemsSoFar old (n - (i + 1)) phis (body ++ x ∷ []) rest
  items_instr n i s {rest} x h l seen is read =
      let next = going_on (λ s. among kind item_kinds) read_item next_phis h.going l seen (subst (λ b. read_item b ts ≡ Ok (AsInstr x, rest)) is read) in
      record {
        items = h.items ++ AsInstr x ∷ [];
        phis_are = h.phis_are ∙ sym (phis_stay h.items x);
        body_is = ap (λ l. l ++ x ∷ []) h.body_is ∙ sym (instrs_more h.items x);
        going = subst (λ b. Going (λ s. among kind item_kinds) read_item next_phis (read_items_from (length old) true old) (n - (i + 1)) b (h.items ++ AsInstr x ∷ []) rest) (none (nat_eq (length body) 0) ∙ sym (some body)) next;
      }
    where
      none : (b : Bool) → (b && false) ≡ false
      none true = refl
      none false = refl

      some : (xs : List Instr) → nat_eq (length (xs ++ x ∷ [])) 0 ≡ false
      some [] = refl
      some (y ∷ ys) = eqb-suc-zero (length (ys ++ x ∷ []))

-- ---- declarations

wrong_step : (b : Bool) (x : Signature) (rest more : Option Signature) (out : Option Signature) → (rest ≡ None → more ≡ out) → cond b rest (Some x) ≡ None → cond b more (Some x) ≡ out
wrong_step true x rest more out k e = k e
wrong_step false x rest more out k e = cc

first_wrong_more : (ss : List Signature) (s : Signature) → first_wrong ss ≡ None → first_wrong (ss ++ s ∷ []) ≡ cond (is_right s) None (Some s)
first_wrong_more [] s e = refl
first_wrong_more (x ∷ ss) s e = wrong_step (is_right x) x (first_wrong ss) (first_wrong (ss ++ s ∷ [])) (cond (is_right s) None (Some s)) (λ e. first_wrong_more ss s e) e

-- the declarations that were read so far, all of which are the table's
pub record RightSoFar (old : List Token) (n : ℕ) (functions : List Function) (ts : List Token) : Type 0 where
  pub signatures : List Signature
  pub functions_are : functions ≡ functions_of signatures
  pub right : first_wrong signatures ≡ None
  pub going : Going (λ s. among kind (signature_kinds s)) read_signature_behind still_right (read_signatures_from (length old) true old) n true signatures ts

pub right_first : (old : List Token) (n : ℕ) → n ≡ length old → RightSoFar old (n - 0) [] old
right_first old n e =
    let all : n - 0 ≡ length old = omega (arith, e) in
    record {
      signatures = [];
      functions_are = refl;
      right = refl;
      going = subst (λ k. Going (λ s. among kind (signature_kinds s)) read_signature_behind still_right (read_signatures_from (length old) true old) k true [] old) (sym all)
          (going_first (λ s. among kind (signature_kinds s)) read_signature_behind still_right (length old) true old);
    }

functions_more : (ss : List Signature) (s : Signature) → functions_of (ss ++ s ∷ []) ≡ functions_of ss ++ s.function ∷ []
functions_more ss s = map-append (λ (s : Signature). s.function) ss (s ∷ [])

none_behind : (rest : List Token) → heads (among kind (signature_kinds false)) rest ≡ false
none_behind [] = refl
none_behind (x ∷ rest) = refl

module _ {old ts : List Token} {functions : List Function} where
  pub right_stop : {n : ℕ} (h : RightSoFar old n functions ts) → heads (among kind (signature_kinds true)) ts ≡ false → read_signatures_from (length old) true old ≡ Ok (h.signatures, ts)
  right_stop h e = going_stops (λ s. among kind (signature_kinds s)) read_signature_behind still_right h.going e

  pub right_end : (n i : ℕ) (h : RightSoFar old (n - i) functions ts) → n ≤ i → read_signatures_from (length old) true old ≡ Ok (h.signatures, ts)
  right_end n i h l = going_ends (λ s. among kind (signature_kinds s)) read_signature_behind still_right h.going l

  pub right_fail : (n i : ℕ) {e : Refusal Token} (h : RightSoFar old (n - i) functions ts) → i < n → heads (among kind (signature_kinds true)) ts ≡ true → read_signature ts ≡ Err e → read_signatures_from (length old) true old ≡ Err e
  right_fail n i h l seen fails = going_fails (λ s. among kind (signature_kinds s)) read_signature_behind still_right h.going l seen fails

  pub right_more : (n i : ℕ) {rest : List Token} (s : Signature) (h : RightSoFar old (n - i) functions ts) → i < n → heads (among kind (signature_kinds true)) ts ≡ true → read_signature ts ≡ Ok (s, rest) → is_right s ≡ true
      → RightSoFar old (n - (i + 1)) (functions ++ s.function ∷ []) rest
  right_more n i {rest} s h l seen read right =
      let next = going_on (λ s. among kind (signature_kinds s)) read_signature_behind still_right h.going l seen read in
      record {
        signatures = h.signatures ++ s ∷ [];
        functions_are = ap (λ l. l ++ s.function ∷ []) h.functions_are ∙ sym (functions_more h.signatures s);
        right = first_wrong_more h.signatures s h.right ∙ ap (λ b. cond b None (Some s)) right;
        going = subst (λ b. Going (λ s. among kind (signature_kinds s)) read_signature_behind still_right (read_signatures_from (length old) true old) (n - (i + 1)) b (h.signatures ++ s ∷ []) rest) right next;
      }

  -- the first that is not the table's is the last
  pub wrong_last : (n i : ℕ) {rest : List Token} (s : Signature) (h : RightSoFar old (n - i) functions ts) → i < n → heads (among kind (signature_kinds true)) ts ≡ true → read_signature ts ≡ Ok (s, rest) → is_right s ≡ false
      → read_signatures_from (length old) true old ≡ Ok (h.signatures ++ s ∷ [], rest)
  wrong_last n i {rest} s h l seen read wrong =
      let next = going_on (λ s. among kind (signature_kinds s)) read_signature_behind still_right h.going l seen read in
      going_stops (λ s. among kind (signature_kinds s)) read_signature_behind still_right next
      (ap (λ b. heads (among kind (signature_kinds b)) rest) wrong ∙ none_behind rest)

  pub wrong_is : (s : Signature) (n : ℕ) (h : RightSoFar old n functions ts) → is_right s ≡ false → first_wrong (h.signatures ++ s ∷ []) ≡ Some s
  wrong_is s n h wrong = first_wrong_more h.signatures s h.right ∙ ap (λ b. cond b None (Some s)) wrong

  pub wrong_functions : (s : Signature) (n : ℕ) (h : RightSoFar old n functions ts) → functions ++ s.function ∷ [] ≡ functions_of (h.signatures ++ s ∷ [])
  wrong_functions s n h = ap (λ l. l ++ s.function ∷ []) h.functions_are ∙ sym (functions_more h.signatures s)
