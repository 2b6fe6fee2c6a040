-- The canonical text of a shaped module is read as its tokens.
use Rattle.std.proofs.Common.{ℕ, suc, ◌+◌, ◌<◌, ◌^◌, Bool, true, false, List, [], ◌∷◌, ◌++◌, map, length, sym, refl, subst, arith}
use Rattle.std.specs.Prelude.{codes, All}
use Rattle.std.specs.List.{flat_map, AllByRecursion}
use Rattle.std.specs.Fmt.{decimal}
use Rattle.std.proofs.lemmas.List.{append_assoc, append-nil}
use Rattle.qir_module.specs.declared.function.Function.{Function}
use Rattle.qir_module.specs.declared.block.Block.{Block}
use Rattle.qir_module.specs.declared.profile.Profile.{Profile}
use Rattle.qir_module.specs.declared.profile.Profile.TheVariants.{Adaptive, Base}
use Rattle.qir_module.specs.Module.{Module, IsShaped, IsNumber, IsLabel, IsFunction, IsShapedInstr, IsShapedPhi, IsShapedBlock}
use Rattle.qir_module.specs.Functions.{Kind, NumberKind, TruthKind, NullKind, QubitKind, ResultKind, LabelKind}
use Rattle.qir_module.specs.Text.{line, comma_joined, escaped}
use Rattle.qir_module.specs.Tokens.{TokenKind}
use Rattle.qir_module.specs.Tokens as t
use Rattle.qir_module.specs.Written.{truth_text, label_name_text, instr_text, last_text, phi_text, item_line, body_text, block_text, label_text, labels_text, behind_labels, kind_text, gives_text, group_text, row_text, declaration_text, profile_text, attributes_text, flags_text, written}
use Rattle.qir_text_tokens.proofs.Passages.{Tokenizes, go, ◌▷◌}
use Rattle.qir_text_tokens.proofs.Ends.{End, AtBlank, AtComma, AtLine, AtParen, AtBrace, end_char, constant_read, block_read}
use Rattle.qir_text_tokens.proofs.Names.{IsClosed, decimal_closed, text_read, escaped_closed, bytes_read, name_read}
use Rattle.qir_text_tokens.proofs.Table.{row_at}
use Rattle.qir_text_tokens.specs.Signs.{instr_tokens, phi_tokens, block_tokens, label_tokens, labels_tokens, kind_tokens, group_tokens, row_tokens, declaration_tokens, function_front, attributes_tokens, second_attributes_tokens, flag_list_tokens, flags_tokens, module_tokens}
use Rattle.qir_text_tokens.proofs.Items.{in_turn, truth_read, natural_read, joined_read, gives_read, instr_read, last_read, phi_read}

-- ---- lines

-- what is left behind is a gap
ended : {text behind : List ℕ} {tokens : List TokenKind} → Tokenizes text tokens (10 ∷ behind) → Tokenizes text tokens behind
ended {text} {behind} {tokens} x = subst (λ y. Tokenizes text y behind) (append-nil tokens) (x ▷ go 1 refl)

item_read : (text behind : List ℕ) {tokens : List TokenKind} → Tokenizes (text ++ 10 ∷ behind) tokens (10 ∷ behind) → Tokenizes (item_line text ++ behind) tokens behind
item_read text behind x = in_turn (codes "  ") (text ∷ (10 ∷ []) ∷ behind ∷ []) (go 2 refl ▷ ended x)

-- items one behind the other
lines_read : {A : Type 0} (text : A → List ℕ) (tokens : A → List TokenKind) (good : A → Type 0) →
    ((x : A) (behind : List ℕ) → good x → Tokenizes (text x ++ behind) (tokens x) behind) →
    (items : List A) (behind : List ℕ) → AllByRecursion good items → Tokenizes (flat_map text items ++ behind) (flat_map tokens items) behind
lines_read text tokens good each [] behind h = go 0 refl
lines_read text tokens good each (x ∷ items) behind h =
    in_turn (text x) (flat_map text items ∷ behind ∷ []) (each x _ h.0 ▷ lines_read text tokens good each items behind h.1)

-- ---- blocks

pub block_lines_read : (b : Block) (behind : List ℕ) → IsShapedBlock b → Tokenizes (block_text b ++ behind) (block_tokens b) behind
block_lines_read b behind h =
    in_turn (codes "b" ++ decimal b.name) (codes ":" ∷ (10 ∷ []) ∷ flat_map (λ p. item_line (phi_text p)) b.phis ∷ body_text b.body ∷ item_line (last_text b.last) ∷ behind ∷ [])
    (block_read b.name _ h.0 ▷ go 1 refl
    ▷ lines_read (λ p. item_line (phi_text p)) phi_tokens IsShapedPhi (λ p rest k. item_read (phi_text p) rest (phi_read p rest k)) b.phis _ h.2
    ▷ lines_read (λ n. item_line (instr_text n)) instr_tokens IsShapedInstr (λ n rest k. item_read (instr_text n) rest (instr_read n rest k)) b.body _ h.3
    ▷ item_read (last_text b.last) behind (last_read b.last behind h.4))

-- ---- labels

label_read : (k : ℕ) (label behind : List ℕ) → IsNumber k → length label < 2 ^ 32 → IsClosed (flat_map escaped label) → Tokenizes (label_text k label ++ behind) (label_tokens k label) behind
label_read k label behind h few closes =
    in_turn (label_name_text k) (codes " = internal constant [" ∷ decimal (length label) ∷ codes " x i8] c\"" ∷ flat_map escaped label ∷ codes "\"" ∷ (10 ∷ []) ∷ behind ∷ [])
    (constant_read k AtBlank _ h ▷ go 8 refl ▷ natural_read (length label) AtBlank _ few ▷ go 6 refl ▷ bytes_read (flat_map escaped label) _ closes ▷ go 1 refl)

pub bytes_by_recursion : (bytes : List ℕ) → All (λ byte. byte < 2 ^ 8) bytes → AllByRecursion (λ byte. byte < 2 ^ 8) bytes
bytes_by_recursion [] h = tt
bytes_by_recursion (byte ∷ bytes) h = (h 0 0 (omega arith), bytes_by_recursion bytes (λ k d lt. h (suc k) d (omega arith)))

labels_read : (k : ℕ) (labels : List (List ℕ)) (behind : List ℕ) → k + length labels < 2 ^ 32 → AllByRecursion IsLabel labels → Tokenizes (labels_text k labels ++ behind) (labels_tokens k labels) behind
labels_read k [] behind few h = go 0 refl
labels_read k (label ∷ labels) behind few h =
    in_turn (label_text k label) (labels_text (suc k) labels ∷ behind ∷ [])
    (label_read k label _ (omega arith) h.0.0 (escaped_closed label (bytes_by_recursion label h.0.1)) ▷ labels_read (suc k) labels behind (omega arith) h.1)

behind_labels_read : (labels : List (List ℕ)) (behind : List ℕ) → Tokenizes (behind_labels labels ++ behind) [] behind
behind_labels_read [] behind = go 0 refl
behind_labels_read (label ∷ labels) behind = go 1 refl

-- ---- declarations

word_type_read : (e : End) (behind : List ℕ) → Tokenizes (codes "i64" ++ end_char e ∷ behind) (t.Word (codes "i64") ∷ []) (end_char e ∷ behind)
word_type_read AtBlank behind = go 1 refl
word_type_read AtComma behind = go 1 refl
word_type_read AtLine behind = go 1 refl
word_type_read AtParen behind = go 1 refl
word_type_read AtBrace behind = go 1 refl

truth_type_read : (e : End) (behind : List ℕ) → Tokenizes (codes "i1" ++ end_char e ∷ behind) (t.Word (codes "i1") ∷ []) (end_char e ∷ behind)
truth_type_read AtBlank behind = go 1 refl
truth_type_read AtComma behind = go 1 refl
truth_type_read AtLine behind = go 1 refl
truth_type_read AtParen behind = go 1 refl
truth_type_read AtBrace behind = go 1 refl

pointer_type_read : (e : End) (behind : List ℕ) → Tokenizes (codes "ptr" ++ end_char e ∷ behind) (t.Word (codes "ptr") ∷ []) (end_char e ∷ behind)
pointer_type_read AtBlank behind = go 1 refl
pointer_type_read AtComma behind = go 1 refl
pointer_type_read AtLine behind = go 1 refl
pointer_type_read AtParen behind = go 1 refl
pointer_type_read AtBrace behind = go 1 refl

kind_read : (kind : Kind) (e : End) (behind : List ℕ) → Unit {0} → Tokenizes (kind_text kind ++ end_char e ∷ behind) (kind_tokens kind) (end_char e ∷ behind)
kind_read NumberKind e behind h = word_type_read e behind
kind_read TruthKind e behind h = truth_type_read e behind
kind_read NullKind e behind h = pointer_type_read e behind
kind_read QubitKind e behind h = pointer_type_read e behind
kind_read ResultKind e behind h = pointer_type_read e behind
kind_read LabelKind e behind h = pointer_type_read e behind

all_unit : (kinds : List Kind) → AllByRecursion (λ kind. Unit {0}) kinds
all_unit [] = tt
all_unit (kind ∷ kinds) = (tt, all_unit kinds)

group_read : (b : Bool) (behind : List ℕ) → Tokenizes (group_text b ++ 10 ∷ behind) (group_tokens b) behind
group_read true behind = go 3 refl
group_read false behind = go 1 refl

declaration_read : (function : Function) (behind : List ℕ) → IsFunction function → Tokenizes (declaration_text function ++ behind) (declaration_tokens function) behind
declaration_read function behind h =
    let found = row_at function.0 h in
    let row = found.row in
    subst (λ o. Tokenizes (row_text o ++ behind) (row_tokens o) behind) (sym found.is)
    (in_turn (codes "declare ") (gives_text row.gives ∷ codes " @" ∷ row.name ∷ codes "(" ∷ comma_joined (map kind_text row.takes) ∷ codes ")" ∷ group_text row.irreversible ∷ (10 ∷ []) ∷ behind ∷ [])
    (go 2 refl ▷ gives_read row.gives _ ▷ name_read row.name _ found.begins found.continues ▷ go 1 refl
    ▷ joined_read kind_text kind_tokens (λ kind. Unit {0}) kind_read row.takes AtParen _ (all_unit row.takes) ▷ go 1 refl ▷ group_read row.irreversible behind))

-- ---- attributes and flags

-- what stands in front of the number of qubits
abbrev front_tokens : Profile → List TokenKind
front_tokens p =
    t.Word (codes "attributes") ∷ t.Group 0 ∷ t.Mark 61 ∷ t.Mark 123 ∷ t.Text (codes "entry_point") ∷ t.Text (codes "qir_profiles") ∷ t.Mark 61 ∷ t.Text (profile_text p)
    ∷ t.Text (codes "output_labeling_schema") ∷ t.Mark 61 ∷ t.Text (codes "labeled") ∷ t.Text (codes "required_num_qubits") ∷ t.Mark 61 ∷ []

front_read : (p : Profile) (behind : List ℕ) → Tokenizes (codes "attributes #0 = { \"entry_point\" \"qir_profiles\"=\"" ++ (profile_text p ++ (codes "\" \"output_labeling_schema\"=\"labeled\" \"required_num_qubits\"=" ++ 34 ∷ behind))) (front_tokens p) (34 ∷ behind)
front_read Adaptive behind = go 20 refl
front_read Base behind = go 20 refl

attributes_read : (m : Module) (behind : List ℕ) → IsNumber m.qubits → IsNumber m.results → Tokenizes (attributes_text m ++ behind) (attributes_tokens m ++ second_attributes_tokens) behind
attributes_read m behind h k =
    in_turn (codes "attributes #0 = { \"entry_point\" \"qir_profiles\"=\"") (profile_text m.profile
    ∷ codes "\" \"output_labeling_schema\"=\"labeled\" \"required_num_qubits\"=\"" ∷ decimal m.qubits
    ∷ codes "\" \"required_num_results\"=\"" ∷ decimal m.results ∷ codes "\" }" ∷ (10 ∷ []) ∷ line (codes "attributes #1 = { \"irreversible\" }") ∷ behind ∷ [])
    (front_read m.profile _ ▷ text_read (decimal m.qubits) _ (decimal_closed m.qubits (omega arith)) ▷ go 3 refl
    ▷ text_read (decimal m.results) _ (decimal_closed m.results (omega arith)) ▷ go 3 refl ▷ go 12 refl)

flags_read : (m : Module) (behind : List ℕ) → IsNumber m.major → IsNumber m.minor → Tokenizes (flags_text m ++ behind) (flags_tokens m) behind
flags_read m behind h k =
    in_turn (line (codes "!0 = !{i32 1, !\"qir_major_version\", i32 " ++ decimal m.major ++ codes "}"))
    (line (codes "!1 = !{i32 7, !\"qir_minor_version\", i32 " ++ decimal m.minor ++ codes "}")
    ∷ line (codes "!2 = !{i32 1, !\"dynamic_qubit_management\", i1 " ++ truth_text m.dynamic_qubits ++ codes "}")
    ∷ line (codes "!3 = !{i32 1, !\"dynamic_result_management\", i1 " ++ truth_text m.dynamic_results ++ codes "}") ∷ behind ∷ [])
    (in_turn (codes "!0 = !{i32 1, !\"qir_major_version\", i32 ") (decimal m.major ∷ codes "}" ∷ (10 ∷ []) ∷ _ ∷ []) (go 16 refl ▷ natural_read m.major AtBrace _ h ▷ go 2 refl)
    ▷ in_turn (codes "!1 = !{i32 7, !\"qir_minor_version\", i32 ") (decimal m.minor ∷ codes "}" ∷ (10 ∷ []) ∷ _ ∷ []) (go 16 refl ▷ natural_read m.minor AtBrace _ k ▷ go 2 refl)
    ▷ in_turn (codes "!2 = !{i32 1, !\"dynamic_qubit_management\", i1 ") (truth_text m.dynamic_qubits ∷ codes "}" ∷ (10 ∷ []) ∷ _ ∷ []) (go 16 refl ▷ truth_read m.dynamic_qubits AtBrace _ ▷ go 2 refl)
    ▷ in_turn (codes "!3 = !{i32 1, !\"dynamic_result_management\", i1 ") (truth_text m.dynamic_results ∷ codes "}" ∷ (10 ∷ []) ∷ behind ∷ []) (go 16 refl ▷ truth_read m.dynamic_results AtBrace _ ▷ go 2 refl))

-- ---- the module

abbrev behind_function : Module → List TokenKind
behind_function m = flat_map declaration_tokens m.declarations ++ (attributes_tokens m ++ (second_attributes_tokens ++ (flag_list_tokens ++ flags_tokens m)))

lines_of_module : (m : Module) → IsShaped m → Tokenizes (written m ++ []) (labels_tokens 0 m.labels ++ (function_front ++ (flat_map block_tokens m.blocks ++ t.Mark 125 ∷ behind_function m))) []
lines_of_module m h =
    in_turn (labels_text 0 m.labels) (behind_labels m.labels ∷ line (codes "define i64 @main() #0 {") ∷ flat_map block_text m.blocks ∷ line (codes "}") ∷ line []
    ∷ flat_map declaration_text m.declarations ∷ line [] ∷ attributes_text m ∷ line [] ∷ line (codes "!llvm.module.flags = !{!0, !1, !2, !3}") ∷ line [] ∷ flags_text m ∷ [] ∷ [])
    (labels_read 0 m.labels _ (omega (arith, h.few_labels)) h.each_label ▷ behind_labels_read m.labels _ ▷ go 12 refl
    ▷ lines_read block_text block_tokens IsShapedBlock block_lines_read m.blocks _ h.each_block ▷ go 3 refl
    ▷ lines_read declaration_text declaration_tokens IsFunction declaration_read m.declarations _ h.each_declaration ▷ go 1 refl
    ▷ attributes_read m _ h.qubits h.results ▷ go 1 refl ▷ go 19 refl ▷ flags_read m [] h.major h.minor)

pub written_read : (m : Module) → IsShaped m → Tokenizes (written m) (module_tokens m) []
written_read m h =
    subst (λ text. Tokenizes text (module_tokens m) []) (append-nil (written m))
    (subst (λ (x : List TokenKind). Tokenizes (written m ++ []) (labels_tokens 0 m.labels ++ (function_front ++ x)) []) (sym (append_assoc (flat_map block_tokens m.blocks) (t.Mark 125 ∷ []) (behind_function m))) (lines_of_module m h))
