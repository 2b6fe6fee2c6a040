-- Bytes that are known, over several calls.
use Rattle.std.proofs.Common.{ℕ, ◌≡◌, ◌+◌, ◌-◌, ◌<◌, ◌≤◌, List, [], ◌++◌, length, take, drop, Option, None, Some, sym, ap, ◌∙◌, append_assoc, arith, min, subst}
use Rattle.std.proofs.Math.Seq.{take-add, take-length}
use Rattle.std.proofs.lemmas.List.{length-drop, length-append, length-take-le, take_at, drop-drop, take-append-drop, nil_from_length}
use Rattle.std.specs.Io.KnownBytes.{Consumes, Appends}

-- what is consumed by two calls
pub consumes_both : (a b c : Option (List ℕ)) (xs ys : List ℕ) → Consumes a b xs → Consumes b c ys → Consumes a c (xs ++ ys)
consumes_both None b c xs ys h k = tt
consumes_both (Some x) None c xs ys h k = absurd h
consumes_both (Some x) (Some y) None xs ys h k = absurd k
consumes_both (Some x) (Some y) (Some z) xs ys h k = h ∙ ap (λ w. xs ++ w) k ∙ sym (append_assoc xs ys z)

-- what is appended by two calls
pub appends_both : (a b c : Option (List ℕ)) (xs ys : List ℕ) → Appends a b xs → Appends b c ys → Appends a c (xs ++ ys)
appends_both None b c xs ys h k = tt
appends_both (Some x) None c xs ys h k = absurd h
appends_both (Some x) (Some y) None xs ys h k = absurd k
appends_both (Some x) (Some y) (Some z) xs ys h k = k ∙ ap (λ w. w ++ ys) h ∙ append_assoc x xs ys

-- a slice from a place on is what stands behind that place
pub slice_from : (xs : List ℕ) (m : ℕ) → take (length xs - m) (drop m xs) ≡ drop m xs
slice_from xs m = ap (λ k. take k (drop m xs)) (sym (length-drop m xs)) ∙ take-length (drop m xs)

-- what is appended by two calls that write a text from its front
pub appends_next : (a b c : Option (List ℕ)) (xs : List ℕ) (m n : ℕ) → Appends a b (take m xs) → Appends b c (take n (take (length xs - m) (drop m xs))) → Appends a c (take (m + n) xs)
appends_next a b c xs m n h k =
    let k' = subst (λ (ys : List ℕ). Appends b c (take n ys)) (slice_from xs m) k in
    subst (λ (ys : List ℕ). Appends a c ys) (sym (take-add m n xs)) (appends_both a b c (take m xs) (take n (drop m xs)) h k')

-- the bytes that were copied into a piece, and those that are left behind them
pub moved : (xs piece copied : List ℕ) (p n : ℕ) → n ≤ length (drop p xs) → copied ≡ take n (drop p xs) → drop p xs ≡ take n (copied ++ drop n piece) ++ drop (p + n) xs
moved xs piece copied p n fits e =
    let long : length copied ≡ n = ap length e ∙ length-take-le n (drop p xs) fits in
    sym (ap (λ ys. ys ++ drop (p + n) xs) (take_at copied (drop n piece) n long ∙ e)
    ∙ ap (λ ys. take n (drop p xs) ++ ys) (sym (drop-drop n p xs))
    ∙ take-append-drop n (drop p xs))

-- Nothing is copied into a piece with room only at the end.
pub at_end : (xs piece copied : List ℕ) (p n : ℕ) → n ≡ min (length (drop p xs)) (length piece) → copied ≡ take n (drop p xs) → n ≡ 0 → 0 < length (copied ++ drop n piece) → drop (p + n) xs ≡ []
at_end xs piece copied p n least e none room =
    let long : length copied ≡ n = ap length e ∙ length-take-le n (drop p xs) (omega (arith, least)) in
    nil_from_length (drop (p + n) xs) (omega (arith, least, none, room, long, length-append copied (drop n piece), length-drop n piece, length-drop p xs, length-drop (p + n) xs))

-- Both, for a slice of the bytes from a place on.
pub moves : (left xs bytes piece copied : List ℕ) (p n : ℕ) → drop p xs ≡ left → bytes ≡ xs
    → n ≡ min (length (take (length bytes - p) (drop p bytes))) (length piece) → copied ≡ take n (take (length bytes - p) (drop p bytes))
    → (left ≡ take n (copied ++ drop n piece) ++ drop (p + n) xs) × (n ≡ 0 → 0 < length (copied ++ drop n piece) → drop (p + n) xs ≡ [])
moves left xs bytes piece copied p n view same least e =
    let slice : take (length bytes - p) (drop p bytes) ≡ drop p xs = slice_from bytes p ∙ ap (drop p) same in
    let least' : n ≡ min (length (drop p xs)) (length piece) = least ∙ ap (λ ys. min (length ys) (length piece)) slice in
    let e' : copied ≡ take n (drop p xs) = e ∙ ap (take n) slice in
    (sym view ∙ moved xs piece copied p n (omega (arith, least')) e', at_end xs piece copied p n least' e')
