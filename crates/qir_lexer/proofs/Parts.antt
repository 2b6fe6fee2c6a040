-- Each part of the grammar is read exactly.
use Rattle.std.proofs.Common.{◌≡◌, ℕ, Bool, true, false, cond, not, ◌&&◌, List, [], ◌∷◌, ◌++◌, length, Option, Some, None, refl, sym, ap, ◌∙◌}
use Rattle.std.specs.Prelude.{nat_eq}
use Rattle.qq_base.specs.declared.refusal.Span.{Span}
use Rattle.qir_module.specs.declared.instruction.Operand.{Operand}
use Rattle.qir_module.specs.declared.instruction.Operand.TheVariants as o
use Rattle.qir_module.specs.declared.instruction.Opcode.{Opcode}
use Rattle.qir_module.specs.declared.instruction.Arg.TheVariants as a
use Rattle.qir_module.specs.declared.instruction.Instr.TheVariants as i
use Rattle.qir_module.specs.declared.instruction.Last.{Last}
use Rattle.qir_module.specs.declared.instruction.Last.TheVariants as l
use Rattle.qir_module.specs.declared.function.Function.{Function}
use Rattle.qir_module.specs.declared.block.Block.{Block}
use Rattle.qir_module.specs.declared.profile.Profile.{Profile}
use Rattle.qir_module.specs.Module.{Module}
use Rattle.grammar_parts.specs.Part.{Part, nothing, never, then, either, repeated}
use Rattle.grammar_parts.specs.Reading.{Reader, done, take_one}
use Rattle.grammar_parts.specs.Kinds.{has, disjoint, among, Among, is_some, take_mark}
use Rattle.grammar_parts.specs.Law.{Fine, Follows, Filled}
use Rattle.grammar_parts.proofs.Fine.{fine_never, fine_wider}
use Rattle.grammar_parts.proofs.Following.{follows_never, follows_wider, follows_then, follows_many}
use Rattle.grammar_parts.proofs.Sets.{Tells, has_apart, has_front, has_back, miss}
use Rattle.grammar_parts.proofs.Productions.{Reads, May, reads_one, reads_mark, reads_never, reads_then, reads_more, may_then, reads_map, may_map, reads_either, may_left_out, may_repeated, may_many, reads_sets}
use Rattle.qir_module.specs.Tokens.{TokenKind, Token}
use Rattle.qir_module.specs.Words as w
use Rattle.qir_module.specs.Words.{Reserved, Quoted, reserved_class, text_class, flag_text_class, group_class, flag_class, kind, function_named}
use Rattle.qir_module.specs.Grammar.{sign, ◌▸◌, constant_at, group_at, flag_at, bytes_at, is_count, ends_in_zero, name_at, text_at, and_then, passing, passing_value, named_function, or_none, with_place, function_name, profile_in, or_base, reserved_at, type_word, profile_named, profile, stray, stray_word, separated, in_parens, typed, truth, truth_number, operand, binary, operation, conversion, choice, selection, id, value_argument, argument, given, Item, AsPhi, AsInstr, entry, phi_of, phi, early_phi, call, assigned, item, label_target, branch, last, items, phis_of, instrs_of, block, function, label, labels, ValueType, WordType, TruthType, PointerType, Signature, all_right, value_type, result_type, undoing, signature, signature_behind, signatures, Heading, heading, Attributes, keyed, attributes, second_attributes, flag_list, flag_line, Flags, flags, module_of, module_part}
use Rattle.qir_module.specs.Reader.{word_kinds, operand_kinds, type_kinds, stray_kinds, operation_kinds, conversion_kinds, id_kinds, argument_kinds, value_type_kinds, instruction_kinds, item_kinds, block_kinds, label_kinds, phi_kinds, signature_kinds, ◌▹◌, read_passing, function_at, read_function_name, profile_at, read_profile, read_stray, read_nothing, read_separated, read_in_parens, read_typed, read_truth, read_operand, read_binary, read_operation, read_conversion, read_choice, read_selection, read_id, read_value_argument, read_argument, read_arguments, read_call, read_entry, read_phi_of, read_phi, read_instruction, read_early_phi, read_assigned, read_item, read_label_target, read_branch, read_last, next_phis, read_items, read_block, read_blocks, read_function, read_label, next_label, read_labels, read_value_type, read_result_type, read_undoing, read_signature, read_signature_behind, still_right, read_signatures, read_heading, read_keyed, read_attributes, read_second_attributes, read_flag_list, read_flag_line, read_flags, read_ending, read_module}
use Rattle.qir_lexer.proofs.Terminals.{name_set, flag_set, text_set, tells_number, tells_small, tells_register, tells_target, tells_block, tells_constant, tells_group, tells_flag, tells_bytes, tells_arithmetic, tells_logic, tells_condition, tells_stray, tells_numeral, tells_profile, tells_function, reads_strictly}

-- a part that is read exactly; these kinds begin it, and only those go on behind a whole one
abbrev pub Exact : {A : Type 0} → Part Token A → Part Token A → Reader Token A → List ℕ → List ℕ → Type 0
Exact p q r F M = Reads kind (Unit {0}) p q r F M

-- ---- one token, and what stands behind it

pub behind_sign : {A : Type 0} {p q : Part Token A} {r : Reader Token A} {F M : List ℕ} (k : ℕ) → Exact p q r F M → Exact (sign k ▸ p) (sign k ▸ q) (take_mark kind k ▹ r) (k ∷ []) M
behind_sign k h = reads_then kind (reads_mark kind k) (λ u. h) refl

pub sign_for : {A : Type 0} (k : ℕ) (x : A) → Exact (sign k ▸ nothing x) (sign k ▸ nothing x) (take_mark kind k ▹ done x) (k ∷ []) []
sign_for k x = reads_map kind (λ u. x) (reads_mark kind k)

-- ---- tokens of which only the value may be wrong

passing_within : {A : Type 0} (test : A → Bool) (from : Option A) (x : A) → passing false test from ≡ Some x → passing true test from ≡ Some x
passing_within test None x e = e
passing_within test (Some y) x e = at (test y) e
  where
    at : (b : Bool) → cond b (Some y) None ≡ Some x → Some y ≡ Some x
    at true h = h
    at false h = absurd (cc)

passing_some : {A : Type 0} (test : A → Bool) (from : Option A) → passing true test from ≡ from
passing_some test None = refl
passing_some test (Some y) = refl

tells_passing : {A : Type 0} (test : A → Bool) (from : TokenKind → Option A) {F : List ℕ} → Tells kind (λ (x : Token). from x.kind) F → Tells kind (λ (x : Token). passing true test (from x.kind)) F
tells_passing test from tells = record {
  sound = λ x y e. tells.sound x y (sym (passing_some test (from x.kind)) ∙ e);
  complete = λ x h. ap is_some (passing_some test (from x.kind)) ∙ tells.complete x h;
}

pub reads_passing : {A : Type 0} (test : A → Bool) (from : TokenKind → Option A) {F : List ℕ} → Tells kind (λ (x : Token). from x.kind) F → Exact (passing_value false test from) (passing_value true test from) (read_passing test from) F []
reads_passing test from tells = reads_strictly (λ x. passing false test (from x.kind)) (λ x. passing true test (from x.kind)) (λ x y e. passing_within test (from x.kind) y e) (tells_passing test from tells)

function_within : (p : Span) (o : Option (List ℕ)) (f : Function × Span) → with_place p (and_then o (named_function false)) ≡ Some f → with_place p (and_then o (named_function true)) ≡ Some f
function_within p None f e = e
function_within p (Some name) f e = at (function_named name) e
  where
    at : (o : Option Function) → with_place p o ≡ Some f → with_place p (Some (or_none o)) ≡ Some f
    at None h = absurd (cc)
    at (Some g) h = h

pub reads_function_name : Exact (function_name false) (function_name true) read_function_name name_set []
reads_function_name = reads_strictly (function_at false) (function_at true) (λ x f e. function_within x.at (name_at x.kind) f e) tells_function

profile_within : (o : Option Quoted) (f : Profile) → and_then o (profile_named false) ≡ Some f → and_then o (profile_named true) ≡ Some f
profile_within None f e = e
profile_within (Some q) f e = at (profile_in q) e
  where
    at : (o : Option Profile) → o ≡ Some f → Some (or_base o) ≡ Some f
    at None h = absurd (cc)
    at (Some g) h = h

pub reads_profile : Exact (profile false) (profile true) read_profile text_set []
reads_profile = reads_strictly (profile_at false) (profile_at true) (λ x f e. profile_within (text_at x.kind) f e) tells_profile

-- ---- where nothing stands, or only what the loose grammar takes

no_false : (b : Bool) → b ≡ false → b ≡ true → ⊥
no_false b e h = cc

pub reads_none : {A : Type 0} → Exact (never {A = A}) never read_nothing [] []
reads_none {A} =
    let f : Fine {T = Token} {A = A} never (Among kind []) (λ x. Among kind []) = fine_wider fine_never (λ u x. absurd x) (λ x u y. absurd y) in
    record {
      follows = follows_never (λ u. false) f (record { never_empty = λ x d. d }) (λ c u e. absurd (no_false false refl e)) (λ u e h. no_false false refl h);
      filled = record { never_empty = λ x d. d };
      hit = λ c u h. absurd (no_false false refl h);
    }

loose_stray : {A : Type 0} → Exact (stray {A = A} true) (stray true) (take_one (λ (x : Token). and_then (reserved_at x.kind) stray_word) ▹ read_nothing) stray_kinds []
loose_stray = reads_then kind (reads_one kind tells_stray) (λ u. reads_none) refl

pub reads_stray : {A : Type 0} → Exact (stray {A = A} false) (stray true) read_stray stray_kinds []
reads_stray {A} = reads_never kind (loose_stray {A = A}) (λ u h. (loose_stray {A = A}).hit tt u h)

-- ---- lists

pub reads_separated : {A : Type 0} {p q : Part Token A} {r : Reader Token A} {F : List ℕ} → Exact p q r F [] → Exact (separated p) (separated q) (read_separated r) F (44 ∷ [])
reads_separated h = reads_more kind h (λ x. may_map kind (λ xs. x ∷ xs) (may_repeated kind (behind_sign 44 h) refl)) refl

pub reads_in_parens : {A : Type 0} {p q : Part Token A} {r : Reader Token A} {F : List ℕ} → Exact p q r F [] → disjoint F [] ≡ true → disjoint (F ++ (44 ∷ [])) (41 ∷ []) ≡ true → Exact (in_parens p) (in_parens q) (read_in_parens F r) (40 ∷ []) []
reads_in_parens h e d = behind_sign 40 (may_then kind (may_left_out kind [] (reads_separated h) e) (λ xs. sign_for 41 xs) d)

-- ---- types and operands

pub reads_typed : {A : Type 0} (p q : Bool → Part Token A) (r : Bool → Reader Token A) {F G M N : List ℕ} → Exact (p false) (q false) (r false) F M → Exact (p true) (q true) (r true) G N → Exact (typed p) (typed q) (read_typed r) type_kinds (M ++ N)
reads_typed p q r f g = reads_either kind (behind_sign 209 f) (behind_sign 206 g) refl

pub reads_truth : Exact truth truth read_truth (216 ∷ 217 ∷ []) []
reads_truth = reads_either kind (sign_for 216 true) (sign_for 217 false) refl

pub reads_operand : (b : Bool) → Exact (operand b) (operand b) (read_operand b) (operand_kinds b) []
unfolding read_operand
reads_operand false = reads_either kind (reads_map kind (λ r. o.Register r) (reads_one kind tells_register)) (reads_map kind (λ z. o.Fixed z) (reads_one kind tells_number)) refl
reads_operand true = reads_either kind (reads_map kind (λ r. o.Register r) (reads_one kind tells_register)) (reads_map kind (λ b. o.Fixed (truth_number b)) reads_truth) refl

-- ---- instructions

pub reads_binary : (r : ℕ) (op : Opcode) (b : Bool) → Exact (binary r op b) (binary r op b) (read_binary r op b) (operand_kinds b) []
unfolding read_binary
reads_binary r op b = reads_then kind (reads_operand b) (λ x. behind_sign 44 (reads_map kind (λ y. i.Op r op b x y) (reads_operand b))) refl

pub reads_operation : (r : ℕ) → Exact (operation r) (operation r) (read_operation r) operation_kinds []
unfolding read_operation
reads_operation r =
    reads_either kind (reads_then kind (reads_one kind tells_arithmetic) (λ op. behind_sign 209 (reads_binary r op false)) refl)
    (reads_either kind (reads_then kind (reads_one kind tells_logic) (λ op. reads_typed (binary r op) (binary r op) (read_binary r op) (reads_binary r op false) (reads_binary r op true)) refl)
    (behind_sign 221 (reads_then kind (reads_one kind tells_condition) (λ op. behind_sign 209 (reads_binary r op false)) refl)) refl) refl

pub reads_conversion : (r : ℕ) → Exact (conversion r) (conversion r) (read_conversion r) conversion_kinds []
unfolding read_conversion
reads_conversion r =
    reads_either kind (behind_sign 222 (behind_sign 206 (reads_then kind (reads_operand true) (λ x. behind_sign 214 (sign_for 209 (i.Zext r x))) refl)))
    (behind_sign 223 (behind_sign 209 (reads_then kind (reads_operand false) (λ x. behind_sign 214 (sign_for 206 (i.Trunc r x))) refl))) refl

reads_choice : (r : ℕ) (test : Operand) (b : Bool) → Exact (choice r test b) (choice r test b) (read_choice r test b) (operand_kinds b) []
unfolding read_choice
reads_choice r test b = reads_then kind (reads_operand b) (λ x. behind_sign 44 (behind_sign (reserved_class (type_word b)) (reads_map kind (λ y. i.Select r b test x y) (reads_operand b)))) refl

pub reads_selection : (r : ℕ) → Exact (selection r) (selection r) (read_selection r) (word_kinds w.Select) []
unfolding read_selection
reads_selection r = behind_sign 224 (behind_sign 206 (reads_then kind (reads_operand true) (λ test. behind_sign 44 (reads_typed (choice r test) (choice r test) (read_choice r test) (reads_choice r test false) (reads_choice r test true))) refl))

pub reads_id : Exact id id read_id id_kinds []
unfolding read_id
reads_id = reads_either kind (sign_for 212 0) (behind_sign 213 (behind_sign 40 (behind_sign 209 (reads_then kind (reads_one kind tells_small) (λ n. behind_sign 214 (behind_sign 210 (sign_for 41 n))) refl)))) refl

pub reads_argument : Exact argument argument read_argument argument_kinds []
unfolding read_argument
reads_argument =
    reads_either kind (reads_typed value_argument value_argument read_value_argument (reads_map kind (λ x. a.Number x) (reads_operand false)) (reads_map kind (λ x. a.Truth x) (reads_operand true)))
    (behind_sign 210 (reads_either kind (reads_map kind (λ n. a.Id n) reads_id) (reads_map kind (λ k. a.Text k) (reads_one kind tells_constant)) refl)) refl

pub reads_arguments : Exact (in_parens argument) (in_parens argument) read_arguments (40 ∷ []) []
unfolding read_arguments
reads_arguments = reads_in_parens reads_argument refl refl

pub reads_call : (r : Option ℕ) → Exact (call false r) (call true r) (read_call r) (word_kinds w.Call) []
unfolding read_call
reads_call r = behind_sign 225 (behind_sign (reserved_class (given r)) (reads_then kind reads_function_name (λ f. reads_map kind (λ xs. i.Call r f.0 xs) reads_arguments) refl))

reads_entry : (b : Bool) → Exact (entry b) (entry b) (read_entry b) (91 ∷ []) []
unfolding read_entry
reads_entry b = behind_sign 91 (reads_then kind (reads_operand b) (λ x. behind_sign 44 (reads_then kind (reads_one kind tells_target) (λ t. sign_for 93 (x, t)) refl)) refl)

reads_phi_of : (r : ℕ) (b : Bool) → Exact (phi_of r b) (phi_of r b) (read_phi_of r b) (91 ∷ []) (44 ∷ [])
unfolding read_phi_of
reads_phi_of r b = reads_map kind (λ es. record { register = r; number = not b; entries = es }) (reads_separated (reads_entry b))

reads_phi : (r : ℕ) → Exact (phi r) (phi r) (read_phi r) (word_kinds w.Phi) (44 ∷ 44 ∷ [])
reads_phi r = behind_sign 220 (reads_typed (phi_of r) (phi_of r) (read_phi_of r) (reads_phi_of r false) (reads_phi_of r true))

reads_early_phi : (b : Bool) (r : ℕ) → Exact (early_phi b r) (early_phi b r) (read_early_phi b r) (phi_kinds b) (44 ∷ 44 ∷ [])
reads_early_phi false r = reads_sets kind [] (44 ∷ 44 ∷ []) reads_none refl refl refl
reads_early_phi true r = reads_map kind (λ p. AsPhi p) (reads_phi r)

reads_instruction : (r : ℕ) → Exact (either (operation r) (either (conversion r) (either (selection r) (call false (Some r))))) (either (operation r) (either (conversion r) (either (selection r) (call true (Some r))))) (read_instruction r) instruction_kinds []
reads_instruction r = reads_either kind (reads_operation r) (reads_either kind (reads_conversion r) (reads_either kind (reads_selection r) (reads_call (Some r)) refl) refl) refl

pub reads_assigned : (b : Bool) (r : ℕ) → Exact (assigned false b r) (assigned true b r) (read_assigned b r) (instruction_kinds ++ (phi_kinds b ++ stray_kinds)) (44 ∷ 44 ∷ [])
unfolding read_assigned
reads_assigned false r = reads_either kind (reads_map kind (λ n. AsInstr n) (reads_instruction r)) (reads_either kind (reads_early_phi false r) reads_stray refl) refl
reads_assigned true r = reads_either kind (reads_map kind (λ n. AsInstr n) (reads_instruction r)) (reads_either kind (reads_early_phi true r) reads_stray refl) refl

pub reads_item : (b : Bool) → Exact (item false b) (item true b) (read_item b) item_kinds (44 ∷ 44 ∷ [])
unfolding read_item
reads_item b =
    reads_either kind (reads_then kind (reads_one kind tells_register) (λ r. behind_sign 61 (reads_assigned b r)) refl)
    (reads_either kind (reads_map kind (λ n. AsInstr n) (reads_call None)) reads_stray refl) refl

-- ---- blocks

reads_label_target : Exact label_target label_target read_label_target (word_kinds w.Label) []
reads_label_target = behind_sign 215 (reads_one kind tells_target)

reads_branch : Exact branch branch read_branch (word_kinds w.I1) []
unfolding read_branch
reads_branch = behind_sign 206 (reads_then kind (reads_operand true) (λ test. behind_sign 44 (reads_then kind reads_label_target (λ x. behind_sign 44 (reads_map kind (λ y. l.Branch test x y) reads_label_target)) refl)) refl)

reads_last : Exact last last read_last (word_kinds w.Br ++ word_kinds w.Ret) []
unfolding read_last
reads_last =
    reads_either kind (behind_sign 226 (reads_either kind (reads_map kind (λ x. l.Jump x) reads_label_target) reads_branch refl))
    (behind_sign 227 (behind_sign 209 (reads_map kind (λ z. l.Return z) (reads_one kind tells_number)))) refl

may_items : May kind (Unit {0}) (items false) (items true) read_items item_kinds (item_kinds ++ (44 ∷ 44 ∷ []))
unfolding read_items
may_items = may_many kind next_phis reads_item refl true

abbrev pub block_of : ℕ → List Item → Last → Block
block_of n xs end = record { name = n; phis = phis_of xs; body = instrs_of xs; last = end }

pub reads_block : Exact (block false) (block true) read_block block_kinds []
unfolding read_block
reads_block = reads_then kind (reads_one kind tells_block) (λ n. may_then kind may_items (λ xs. reads_map kind (λ end. block_of n xs end) reads_last) refl) refl

reads_blocks : Exact (then (block false) (λ b. then (repeated (block false)) (λ bs. sign 125 ▸ nothing (b ∷ bs)))) (then (block true) (λ b. then (repeated (block true)) (λ bs. sign 125 ▸ nothing (b ∷ bs)))) read_blocks block_kinds []
unfolding read_blocks
reads_blocks = reads_then kind reads_block (λ b. may_then kind (may_repeated kind reads_block refl) (λ bs. sign_for 125 (b ∷ bs)) refl) refl

pub reads_function : Exact (function false) (function true) read_function (word_kinds w.Define) []
unfolding read_function
reads_function = behind_sign 200 (behind_sign 209 (behind_sign 150 (behind_sign 40 (behind_sign 41 (behind_sign 130 (behind_sign 123 reads_blocks))))))

-- ---- labels

reads_label : (k : ℕ) → Exact (label false k) (label true k) (read_label k) label_kinds []
unfolding read_label
reads_label k =
    reads_then kind (reads_passing (nat_eq k) constant_at tells_constant) (λ u. behind_sign 61 (behind_sign 203 (behind_sign 204 (behind_sign 91
    (reads_then kind (reads_one kind tells_number) (λ n. behind_sign 205 (behind_sign 207 (behind_sign 93 (reads_passing (λ bytes. is_count n (length bytes) && ends_in_zero bytes) bytes_at tells_bytes)))) refl))))) refl

pub may_labels : May kind (Unit {0}) (labels false) (labels true) read_labels label_kinds label_kinds
unfolding read_labels
may_labels = may_many kind next_label reads_label refl 0

-- ---- declarations

reads_value_type : Exact value_type value_type read_value_type value_type_kinds []
unfolding read_value_type
reads_value_type = reads_either kind (sign_for 209 WordType) (reads_either kind (sign_for 206 TruthType) (sign_for 210 PointerType) refl) refl

reads_result_type : Exact result_type result_type read_result_type (word_kinds w.Void ++ word_kinds w.I1) []
unfolding read_result_type
reads_result_type = reads_either kind (sign_for 211 false) (sign_for 206 true) refl

may_undoing : May kind (Unit {0}) undoing undoing read_undoing (131 ∷ []) (131 ∷ [])
unfolding read_undoing
may_undoing = may_left_out kind false (sign_for 131 true) refl

abbrev pub signature_of : Bool → Function × Span → List ValueType → Bool → Signature
signature_of gives f types fixed = record { function = f.0; at = f.1; takes = types; gives = gives; irreversible = fixed }

pub reads_signature : Exact (signature false) (signature true) read_signature (word_kinds w.Declare) (131 ∷ [])
unfolding read_signature
reads_signature =
    behind_sign 201 (reads_then kind reads_result_type (λ gives. reads_then kind reads_function_name (λ f. reads_more kind (reads_in_parens reads_value_type refl refl) (λ types.
    may_map kind (λ fixed. signature_of gives f types fixed) may_undoing) refl) refl) refl)

behind_follows : (b : Bool) → Follows (Unit {0}) (signature_behind false b) (signature_behind true b) (read_signature_behind b) (Among kind (signature_kinds b)) (λ s. Among kind (131 ∷ []))
behind_follows false = follows_wider reads_none.follows (λ u h. h) (λ x u h. absurd (cc))
behind_follows true = reads_signature.follows

behind_filled : (b : Bool) → Filled (signature_behind true b)
behind_filled false = record { never_empty = λ x d. d }
behind_filled true = reads_signature.filled

behind_apart : (b : Bool) (u : Token) → Among kind (131 ∷ []) u → Among kind (signature_kinds b) u → ⊥
behind_apart false u h g = no_false false refl g
behind_apart true u h g = has_apart (131 ∷ []) (201 ∷ []) refl (kind u) h g

behind_hit : (b : Bool) (u : Token) → among kind (signature_kinds b) u ≡ true → (signature_behind true b).begins (u ∷ [])
behind_hit false u h = absurd (no_false false refl h)
behind_hit true u h = reads_signature.hit tt u h

behind_within : (b : Bool) (u : Token) → Among kind (signature_kinds b) u → Among kind (201 ∷ 131 ∷ []) u
behind_within false u h = absurd (no_false false refl h)
behind_within true u h = has_front (201 ∷ []) (131 ∷ []) (kind u) h

may_signatures : May kind (Unit {0}) (signatures false) (signatures true) read_signatures (201 ∷ []) (201 ∷ 131 ∷ [])
unfolding read_signatures
may_signatures = record {
  follows = follows_many still_right (λ s. among kind (signature_kinds s)) behind_follows behind_filled (λ s x u. behind_apart (still_right s x) u) (λ s x u h. has_back (201 ∷ []) (131 ∷ []) (kind u) h) behind_within (λ c. behind_hit) (λ s u. miss (has (signature_kinds s) (kind u))) true;
  hit = λ c u h. ([], [], u ∷ [], refl, refl, reads_signature.hit tt u h);
  none = λ c. ([], refl);
}

abbrev pub heading_of : List (List ℕ) → List Block → List Signature → Heading
heading_of ls bs ss = record { labels = ls; blocks = bs; signatures = ss }

abbrev pub heading_kinds : List ℕ
heading_kinds = label_kinds ++ word_kinds w.Define

pub reads_heading : Exact (heading false) (heading true) read_heading heading_kinds (201 ∷ 131 ∷ [])
unfolding read_heading
reads_heading = may_then kind may_labels (λ ls. reads_more kind reads_function (λ bs. may_map kind (λ ss. heading_of ls bs ss) may_signatures) refl) refl

-- ---- attributes and flags

reads_keyed : {A : Type 0} {p q : Part Token A} {r : Reader Token A} {F : List ℕ} (key : Quoted) → Exact p q r F [] → Exact (keyed key p) (keyed key q) (read_keyed key r) (text_class key ∷ []) []
reads_keyed key h = behind_sign (text_class key) (behind_sign 61 h)

abbrev pub attributes_of : Profile → ℕ → ℕ → Attributes
attributes_of p n k = record { profile = p; qubits = n; results = k }

abbrev pub flags_of : ℕ → ℕ → Bool → Bool → Flags
flags_of major minor qubits results = record { major = major; minor = minor; dynamic_qubits = qubits; dynamic_results = results }

reads_attributes : Exact (attributes false) (attributes true) read_attributes (word_kinds w.Attributes) []
unfolding read_attributes
reads_attributes =
    behind_sign 202 (reads_then kind (reads_passing (nat_eq 0) group_at tells_group) (λ u. behind_sign 61 (behind_sign 123 (behind_sign 300
    (reads_then kind (reads_keyed w.Profiles reads_profile) (λ p. reads_then kind (reads_keyed w.LabelingSchema (reads_mark kind 304)) (λ u.
    reads_then kind (reads_keyed w.RequiredQubits (reads_one kind tells_numeral)) (λ n. reads_then kind (reads_keyed w.RequiredResults (reads_one kind tells_numeral)) (λ k. sign_for 125 (attributes_of p n k)) refl) refl) refl) refl)))) refl)

reads_second_attributes : Exact (second_attributes false) (second_attributes true) read_second_attributes (word_kinds w.Attributes) []
unfolding read_second_attributes
reads_second_attributes = behind_sign 202 (reads_then kind (reads_passing (nat_eq 1) group_at tells_group) (λ u. behind_sign 61 (behind_sign 123 (behind_sign 307 (reads_mark kind 125)))) refl)

reads_flag_list : Exact flag_list flag_list read_flag_list (152 ∷ []) []
unfolding read_flag_list
reads_flag_list = behind_sign 152 (behind_sign 61 (behind_sign 33 (behind_sign 123 (behind_sign 134 (behind_sign 44 (behind_sign 135 (behind_sign 44 (behind_sign 136 (behind_sign 44 (behind_sign 137 (reads_mark kind 125)))))))))))

reads_flag_line : {A : Type 0} {p : Part Token A} {r : Reader Token A} {F : List ℕ} (k behaviour : ℕ) (name : Quoted) (type : Reserved) → Exact p p r F [] → Exact (flag_line false k (sign behaviour) name type p) (flag_line true k (sign behaviour) name type p) (read_flag_line k (take_mark kind behaviour) name type r) flag_set []
unfolding read_flag_line
reads_flag_line k behaviour name type h =
    reads_then kind (reads_passing (nat_eq k) flag_at tells_flag) (λ u. behind_sign 61 (behind_sign 33 (behind_sign 123 (behind_sign 208 (behind_sign behaviour (behind_sign 44
    (behind_sign (flag_text_class name) (behind_sign 44 (behind_sign (reserved_class type) (reads_then kind h (λ v. sign_for 125 v) refl)))))))))) refl

reads_flags : Exact (flags false) (flags true) read_flags (152 ∷ []) []
unfolding read_flags
reads_flags =
    reads_then kind reads_flag_list (λ u. reads_then kind (reads_flag_line 0 140 w.MajorVersion w.I32 (reads_one kind tells_small)) (λ major. reads_then kind (reads_flag_line 1 141 w.MinorVersion w.I32 (reads_one kind tells_small)) (λ minor.
    reads_then kind (reads_flag_line 2 140 w.DynamicQubits w.I1 reads_truth) (λ qubits. reads_map kind (λ results. flags_of major minor qubits results) (reads_flag_line 3 140 w.DynamicResults w.I1 reads_truth)) refl) refl) refl) refl

-- ---- the module

abbrev pub whole_ending : Bool → Heading → Part Token Module
whole_ending loose h = then (attributes loose) (λ x. second_attributes loose ▸ then (flags loose) (λ y. nothing (module_of h x y)))

pub reads_ending : (h : Heading) → Exact (whole_ending false h) (whole_ending true h) (read_ending h) (word_kinds w.Attributes) []
unfolding read_ending
reads_ending h = reads_then kind reads_attributes (λ x. reads_then kind reads_second_attributes (λ u. reads_map kind (λ y. module_of h x y) reads_flags) refl) refl

ending_follows : (h : Heading) (b : Bool) → Follows (Unit {0}) (cond b (whole_ending false h) never) (cond b (whole_ending true h) never) (cond b (read_ending h) read_nothing) (Among kind (word_kinds w.Attributes)) (λ m. Among kind [])
ending_follows h true = (reads_ending h).follows
ending_follows h false = follows_wider reads_none.follows (λ u g. absurd (no_false false refl g)) (λ x u g. g)

ending_filled : (h : Heading) (b : Bool) → Filled (cond b (whole_ending true h) never)
ending_filled h true = (reads_ending h).filled
ending_filled h false = record { never_empty = λ x d. d }

pub module_follows : Follows (Unit {0}) (module_part false) (module_part true) read_module (Among kind heading_kinds) (λ m. Among kind [])
unfolding read_module
module_follows = follows_then reads_heading.follows (λ h. ending_follows h (all_right h.signatures)) (λ h u. has_apart (201 ∷ 131 ∷ []) (202 ∷ []) refl (kind u)) (λ u g. g) (λ h u d g. absurd (reads_heading.filled.never_empty h d)) (λ h m u d g. absurd ((ending_filled h (all_right h.signatures)).never_empty m d))
