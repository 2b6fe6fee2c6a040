-- Texts that are written one item at a time.
use Rattle.std.proofs.Common.{◌≡◌, ◌∙◌, refl, sym, ap, ℕ, suc, ◌+◌, ◌<◌, arith, add-zero, List, [], ◌∷◌, ◌++◌, length, take, get_or, map, codes, append_assoc, append-nil, length-take, Option, Some, None, Bool}
use Rattle.std.proofs.lemmas.List.{take_more, length-map, map-append}
use Rattle.std.proofs.lemmas.Simd.{map-map}
use Rattle.std.specs.Option.{option_map}
use Rattle.std.specs.List.{flat_map}
use Rattle.qir_module.specs.Functions as table
use Rattle.qir_module.specs.Module.{Module}
use Rattle.qir_module.specs.Text.{line, comma_joined}
use Rattle.qir_module.specs.Written.{label_text, labels_text, behind_labels, block_text, kind_text, gives_text, group_text, row_text, declaration_text, attributes_text, flags_text, written}
use Rattle.qir_module.specs.Kinds.{kind_of}
use Rattle.qir_module.specs.declared.function.FunctionRow.{FunctionRow}
use Rattle.qir_writer.specs.Parts.{comma_before, row_line}

-- ---- texts behind one another

pub joined_four : (text a b c d : List ℕ) → text ++ a ++ b ++ c ++ d ≡ text ++ (a ++ b ++ c ++ d)
joined_four text a b c d = simp append_assoc

pub joined_nine : (text a b c d e f g h i : List ℕ) → text ++ a ++ b ++ c ++ d ++ e ++ f ++ g ++ h ++ i ≡ text ++ (a ++ b ++ c ++ d ++ e ++ f ++ g ++ h ++ i)
joined_nine text a b c d e f g h i = simp append_assoc

-- ---- lists that are written item by item

-- an item behind all others
pub comma_joined-push : (items : List (List ℕ)) (x : List ℕ) → comma_joined (items ++ x ∷ []) ≡ comma_joined items ++ comma_before (length items) ++ x
comma_joined-push [] x = refl
comma_joined-push (item ∷ []) x = refl
comma_joined-push (item ∷ next ∷ items) x =
    ap (λ t. item ++ codes ", " ++ t) (comma_joined-push (next ∷ items) x) ∙ simp append_assoc

length-front : {X : Type 0} (f : X → List ℕ) (xs : List X) (i : ℕ) → i < length xs → length (map f (take i xs)) ≡ i
length-front f xs i h = simp (length-map, length-take) (omega arith)

-- one item more of a list that is written item by item
pub comma_joined_more : {X : Type 0} (f : X → List ℕ) (text : List ℕ) (xs : List X) (i : ℕ) (d : X) → i < length xs →
    text ++ comma_joined (map f (take i xs)) ++ comma_before i ++ f (get_or xs i d) ≡ text ++ comma_joined (map f (take (i + 1) xs))
comma_joined_more f text xs i d h =
    let front = map f (take i xs) in
    let x = f (get_or xs i d) in
    let all : map f (take (i + 1) xs) ≡ front ++ x ∷ [] = ap (map f) (take_more xs i d h) ∙ map-append f (take i xs) (get_or xs i d ∷ []) in
    let joined : comma_joined (map f (take (i + 1) xs)) ≡ comma_joined front ++ comma_before i ++ x =
    ap comma_joined all ∙ comma_joined-push front x ∙ ap (λ n. comma_joined front ++ comma_before n ++ x) (length-front f xs i h) in
    ap (λ t. t ++ x) (append_assoc text (comma_joined front) (comma_before i)) ∙ append_assoc text (comma_joined front ++ comma_before i) x ∙ ap (λ t. text ++ t) (sym joined)

-- the labels from the k-th on and one more
labels_text-push : (k : ℕ) (labels : List (List ℕ)) (label : List ℕ) → labels_text k (labels ++ label ∷ []) ≡ labels_text k labels ++ label_text (k + length labels) label
labels_text-push k [] label = ap (λ n. label_text n label ++ []) (sym (add-zero k)) ∙ append-nil (label_text (k + 0) label)
labels_text-push k (first ∷ labels) label =
    let next : suc k + length labels ≡ k + suc (length labels) = omega arith in
    ap (λ t. label_text k first ++ t) (labels_text-push (suc k) labels label ∙ ap (λ n. labels_text (suc k) labels ++ label_text n label) next)
    ∙ sym (append_assoc (label_text k first) (labels_text (suc k) labels) (label_text (k + suc (length labels)) label))

-- the labels so far and one more
pub labels_text_more : (text : List ℕ) (labels : List (List ℕ)) (i : ℕ) (d : List ℕ) → i < length labels →
    text ++ labels_text 0 (take i labels) ++ label_text i (get_or labels i d) ≡ text ++ labels_text 0 (take (i + 1) labels)
labels_text_more text labels i d h =
    let label = get_or labels i d in
    let count : 0 + length (take i labels) ≡ i = simp length-take (omega arith) in
    let all : labels_text 0 (take (i + 1) labels) ≡ labels_text 0 (take i labels) ++ label_text i label =
    ap (labels_text 0) (take_more labels i d h) ∙ labels_text-push 0 (take i labels) label ∙ ap (λ n. labels_text 0 (take i labels) ++ label_text n label) count in
    append_assoc text (labels_text 0 (take i labels)) (label_text i label) ∙ ap (λ t. text ++ t) (sym all)

-- ---- declarations

-- the line of a declaration
abbrev declare : List ℕ → Bool → List (List ℕ) → Bool → List ℕ
declare name gives kinds irreversible = line (codes "declare " ++ gives_text gives ++ codes " @" ++ name ++ codes "(" ++ comma_joined kinds ++ codes ")" ++ group_text irreversible)

-- the declaration by a row, by what is known of the row
row_text_of : (row : Option table.Row) (name : List ℕ) (takes : List table.Kind) (gives irreversible : Bool) →
    Some name ≡ option_map (λ r. r.name) row → Some takes ≡ option_map (λ r. r.takes) row →
    Some gives ≡ option_map (λ r. r.gives) row → Some irreversible ≡ option_map (λ r. r.irreversible) row →
    row_text row ≡ declare name gives (map kind_text takes) irreversible
row_text_of None name takes gives irreversible has_name has_takes has_gives has_irreversible = cc
row_text_of (Some row) name takes gives irreversible has_name has_takes has_gives has_irreversible = cc

-- the same by the code's row
pub row_line_of : (row : FunctionRow) (found : Option table.Row) →
    Some row.name.now ≡ option_map (λ r. r.name) found → Some (map kind_of row.takes.now) ≡ option_map (λ r. r.takes) found →
    Some row.gives ≡ option_map (λ r. r.gives) found → Some row.irreversible ≡ option_map (λ r. r.irreversible) found →
    row_line row ≡ row_text found
row_line_of row found has_name has_takes has_gives has_irreversible =
    sym (row_text_of found row.name.now (map kind_of row.takes.now) row.gives row.irreversible has_name has_takes has_gives has_irreversible
    ∙ ap (λ kinds. declare row.name.now row.gives kinds row.irreversible) (map-map kind_text kind_of row.takes.now))

-- ---- the module

parts_joined : (labels blank start blocks end line declarations attributes list flags : List ℕ) →
    labels ++ blank ++ (start ++ blocks ++ end ++ line) ++ (declarations ++ line) ++ attributes ++ (line ++ list ++ line) ++ flags
    ≡ labels ++ blank ++ start ++ blocks ++ end ++ line ++ declarations ++ line ++ attributes ++ line ++ list ++ line ++ flags
parts_joined labels blank start blocks end line declarations attributes list flags = simp append_assoc

-- the text of a module, by its parts behind one another
pub written_of : (m : Module) (labels defined declared attributed listed all : List ℕ) →
    labels ≡ labels_text 0 m.labels ++ behind_labels m.labels →
    defined ≡ labels ++ (line (codes "define i64 @main() #0 {") ++ flat_map block_text m.blocks ++ line (codes "}") ++ line []) →
    declared ≡ defined ++ (flat_map declaration_text m.declarations ++ line []) →
    attributed ≡ declared ++ attributes_text m →
    listed ≡ attributed ++ (line [] ++ line (codes "!llvm.module.flags = !{!0, !1, !2, !3}") ++ line []) →
    all ≡ listed ++ flags_text m →
    all ≡ written m
written_of m labels defined declared attributed listed all has_labels has_definition has_declarations has_attributes has_list has_flags =
    rw (has_flags, has_list, has_attributes, has_declarations, has_definition, has_labels)
    (parts_joined (labels_text 0 m.labels) (behind_labels m.labels) (line (codes "define i64 @main() #0 {")) (flat_map block_text m.blocks) (line (codes "}")) (line [])
    (flat_map declaration_text m.declarations) (attributes_text m) (line (codes "!llvm.module.flags = !{!0, !1, !2, !3}")) (flags_text m))
