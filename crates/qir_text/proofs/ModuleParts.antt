-- The tokens of a shaped module are the grammar's module.
use Rattle.std.proofs.Common.{◌≡◌, ℕ, suc, ◌<◌, ◌&&◌, Bool, true, false, cond, List, [], ◌∷◌, ◌++◌, map, length, Some, None, sym, refl, ap, ◌∙◌, subst, arith}
use Rattle.std.specs.Prelude.{codes, nat_eq, pos}
use Rattle.std.specs.List.{flat_map, AllByRecursion}
use Rattle.std.proofs.lemmas.Bool.Decides.{nat_tests}
use Rattle.std.proofs.lemmas.List.{append_assoc, append-nil}
use Rattle.qq_base.specs.declared.refusal.Span.{Span}
use Rattle.qir_module.specs.declared.instruction.Instr.{Instr}
use Rattle.qir_module.specs.declared.function.Function.{Function}
use Rattle.qir_module.specs.declared.block.Phi.{Phi}
use Rattle.qir_module.specs.declared.block.Block.{Block}
use Rattle.qir_module.specs.declared.profile.Profile.{Profile}
use Rattle.qir_module.specs.declared.profile.Profile.TheVariants.{Adaptive, Base}
use Rattle.qir_module.specs.Functions.{Kind, NumberKind, TruthKind, NullKind, QubitKind, ResultKind, LabelKind, Row, row_of}
use Rattle.qir_module.specs.Module.{Module, IsShaped, IsNumber, IsLabel, IsFunction, IsShapedInstr, IsShapedPhi, IsShapedBlock}
use Rattle.qir_module.specs.Text.{escaped}
use Rattle.grammar_parts.specs.Part.{Part, then, many, never, nothing}
use Rattle.qir_module.specs.Tokens.{TokenKind, Token, bytes_meant, leads_with_zero}
use Rattle.qir_module.specs.Tokens as t
use Rattle.qir_module.specs.Words as w
use Rattle.qir_module.specs.Words.{same, has_name, named_from, function_named, is_numeral, is_empty, text_of, class_of, reserved_class, flag_text_class, Quoted, Reserved}
use Rattle.qir_module.specs.Written.{row_name, gives_text, truth_text, profile_text}
use Rattle.qir_module.specs.Grammar.{sign, ◌▸◌, profile_named, small_number, numeral_in, text_at, and_then, passing, bytes_at, is_count, ends_in_zero, item, Item, AsPhi, AsInstr, is_phi, phis_of, instrs_of, items, block, function, label, ValueType, WordType, TruthType, PointerType, Signature, type_of_kind, same_type, same_types, same_truth, is_declared_so, is_right, all_right, functions_of, value_type, result_type, undoing, signature, signature_behind, Heading, heading, Attributes, attributes, second_attributes, flag_list, flag_line, Flags, flags, module_of, ending, module_part, truth}
use Rattle.qir_text_tokens.specs.Signs.{left_paren, right_paren, right_brace, joined_tokens, instr_tokens, last_tokens, phi_tokens, block_tokens, label_tokens, labels_tokens, kind_tokens, group_tokens, row_tokens, declaration_tokens, function_tokens, attributes_tokens, second_attributes_tokens, flag_list_tokens, flag_tokens, flags_tokens, module_tokens}
use Rattle.qir_text.proofs.Known.{Known, tells}
use Rattle.qir_text.proofs.Making.{Makes, MakesSome, eqb_same, front_of, value_made, behind, nothing_made, then_made, with_value, tokens_so, left_made, right_made, sign_some, behind_some, then_some, some_then, some_nothing, some_so, some_value, no_tokens, many_none, many_more, repeated_made, in_parens_made}
use Rattle.qir_text.proofs.ItemParts.{name_some, instr_made, phi_made, last_made, small_is}

-- ---- blocks

abbrev next_phis : Bool → Item → Bool
next_phis phis x = phis && is_phi x

phis_are : (phis : List Phi) (body : List Instr) → phis_of (map AsPhi phis ++ map AsInstr body) ≡ phis
phis_are [] [] = refl
phis_are [] (n ∷ body) = phis_are [] body
phis_are (p ∷ phis) body = ap (λ (ps : List Phi). p ∷ ps) (phis_are phis body)

instrs_are : (phis : List Phi) (body : List Instr) → instrs_of (map AsPhi phis ++ map AsInstr body) ≡ body
instrs_are [] [] = refl
instrs_are [] (n ∷ body) = ap (λ (ns : List Instr). n ∷ ns) (instrs_are [] body)
instrs_are (p ∷ phis) body = instrs_are phis body

module _ (known : Known) where
  instrs_made : (phis : Bool) (body : List Instr) → AllByRecursion IsShapedInstr body → Makes (many (item false) next_phis phis) (flat_map instr_tokens body) (map AsInstr body)
  instrs_made phis [] h = many_none (item false) next_phis phis
  instrs_made phis (n ∷ body) h = many_more (item false) next_phis phis (AsInstr n) (map AsInstr body) (instr_made known phis n h.0) (instrs_made (phis && false) body h.1)

  items_made : (phis : List Phi) (body : List Instr) → AllByRecursion IsShapedPhi phis → AllByRecursion IsShapedInstr body →
      Makes (items false) (flat_map phi_tokens phis ++ flat_map instr_tokens body) (map AsPhi phis ++ map AsInstr body)
  items_made [] body h k = instrs_made true body k
  items_made (p ∷ phis) body h k =
      tokens_so (append_assoc (phi_tokens p) (flat_map phi_tokens phis) (flat_map instr_tokens body))
      (many_more (item false) next_phis true (AsPhi p) (map AsPhi phis ++ map AsInstr body) (phi_made p h.0) (items_made phis body h.1 k))

  block_made : (b : Block) → IsShapedBlock b → Makes (block false) (block_tokens b) b
  block_made b h =
      let whole : record { name = b.name; phis = phis_of (map AsPhi b.phis ++ map AsInstr b.body); body = instrs_of (map AsPhi b.phis ++ map AsInstr b.body); last = b.last } ≡ b =
      ap (λ (ps : List Phi). record b { phis = ps; body = instrs_of (map AsPhi b.phis ++ map AsInstr b.body) }) (phis_are b.phis b.body)
      ∙ ap (λ (ns : List Instr). record b { body = ns }) (instrs_are b.phis b.body) in
      tokens_so (ap (λ (ks : List TokenKind). t.Block b.name ∷ ks) (sym (append_assoc (flat_map phi_tokens b.phis) (flat_map instr_tokens b.body) (last_tokens b.last))))
      (then_made (value_made _ refl) (then_made (items_made b.phis b.body h.2 h.3) (with_value (last_made b.last h.4) whole)))

  function_made : (blocks : List Block) → 0 < length blocks → AllByRecursion IsShapedBlock blocks → Makes (function false) (function_tokens blocks) blocks
  function_made [] some h = absurd (omega arith)
  function_made (b ∷ blocks) some h =
      behind refl (behind refl (behind refl (behind refl (behind refl (behind refl (behind refl
      (tokens_so (append_assoc (block_tokens b) (flat_map block_tokens blocks) (right_brace ∷ []))
      (then_made (block_made b h.0) (then_made (repeated_made (block false) block_tokens IsShapedBlock block_made blocks h.1) (behind refl (nothing_made refl)))))))))))

-- ---- labels

numbered_is : (n : ℕ) → passing false (nat_eq n) (Some n) ≡ Some n
numbered_is n = ap (λ b. cond b (Some n) None) (eqb_same n)

ends : (cs : List ℕ) → ends_in_zero (cs ++ 0 ∷ []) ≡ true
ends [] = refl
ends (c ∷ []) = refl
ends (c ∷ d ∷ cs) = ends (d ∷ cs)

module _ (known : Known) where
  label_is : (bytes : List ℕ) → IsLabel bytes → passing false (λ (other : List ℕ). is_count (pos (length bytes)) (length other) && ends_in_zero other) (bytes_at (t.Bytes (flat_map escaped bytes))) ≡ Some bytes
  label_is bytes h =
      ap (λ (other : List ℕ). passing false (λ (x : List ℕ). is_count (pos (length bytes)) (length x) && ends_in_zero x) (Some other)) (known.meant bytes h.1)
      ∙ ap (λ b. cond (b && ends_in_zero bytes) (Some bytes) None) (eqb_same (length bytes))
      ∙ ap (λ b. cond b (Some bytes) None) (ap ends_in_zero h.3 ∙ ends h.2)

  label_made : (k : ℕ) (bytes : List ℕ) → IsLabel bytes → Makes (label false k) (label_tokens k bytes) bytes
  label_made k bytes h =
      then_made (value_made _ (numbered_is k)) (behind refl (behind refl (behind refl (behind refl (then_made (value_made _ refl) (behind refl (behind refl (behind refl (value_made _ (label_is bytes h))))))))))

  labels_made : (k : ℕ) (ls : List (List ℕ)) → AllByRecursion IsLabel ls → Makes (many (label false) (λ k bytes. suc k) k) (labels_tokens k ls) ls
  labels_made k [] h = many_none (label false) (λ k bytes. suc k) k
  labels_made k (bytes ∷ ls) h = many_more (label false) (λ k bytes. suc k) k bytes ls (label_made k bytes h.0) (labels_made (suc k) ls h.1)

-- ---- declarations

abbrev type_tokens : ValueType → List TokenKind
type_tokens WordType = t.Word (codes "i64") ∷ []
type_tokens TruthType = t.Word (codes "i1") ∷ []
type_tokens PointerType = t.Word (codes "ptr") ∷ []

type_made : (x : ValueType) → Unit {0} → Makes value_type (type_tokens x) x
type_made WordType h = left_made (behind refl (nothing_made refl))
type_made TruthType h = right_made (left_made (behind refl (nothing_made refl)))
type_made PointerType h = right_made (right_made (behind refl (nothing_made refl)))

kind_type : (k : Kind) → kind_tokens k ≡ type_tokens (type_of_kind k)
kind_type NumberKind = refl
kind_type TruthKind = refl
kind_type NullKind = refl
kind_type QubitKind = refl
kind_type ResultKind = refl
kind_type LabelKind = refl

kind_types : (ks : List Kind) → map kind_tokens ks ≡ map type_tokens (map type_of_kind ks)
kind_types [] = refl
kind_types (k ∷ ks) =
    ap (λ (x : List TokenKind). x ∷ map kind_tokens ks) (kind_type k) ∙ ap (λ (xs : List (List TokenKind)). type_tokens (type_of_kind k) ∷ xs) (kind_types ks)

all_unit : (xs : List ValueType) → AllByRecursion (λ x. Unit {0}) xs
all_unit [] = tt
all_unit (x ∷ xs) = (tt, all_unit xs)

result_made : (gives : Bool) → Makes result_type (t.Word (gives_text gives) ∷ []) gives
result_made true = right_made (behind refl (nothing_made refl))
result_made false = left_made (behind refl (nothing_made refl))

undoing_made : (b : Bool) → Makes undoing (group_tokens b) b
undoing_made true = left_made (behind refl (nothing_made refl))
undoing_made false = right_made (nothing_made refl)

type_self : (x : ValueType) → same_type x x ≡ true
type_self WordType = refl
type_self TruthType = refl
type_self PointerType = refl

types_self : (xs : List ValueType) → same_types xs xs ≡ true
types_self [] = refl
types_self (x ∷ xs) = ap (λ b. b && same_types xs xs) (type_self x) ∙ types_self xs

truth_self : (b : Bool) → same_truth b b ≡ true
truth_self true = refl
truth_self false = refl

-- a declaration of the function that is the table's
abbrev IsRightFor : Function → Signature → Type 0
IsRightFor f s = (s.function ≡ f) × (is_right s ≡ true)

abbrev signature_of : Function → Row → Span → Signature
signature_of f row at = record { function = f; at = at; takes = map type_of_kind row.takes; gives = row.gives; irreversible = row.irreversible }

right_for : (f : Function) (row : Row) (at : Span) → row_of f.0 ≡ Some row → IsRightFor f (signature_of f row at)
right_for f row at e = (
  refl,
  ap (λ o. is_declared_so o (signature_of f row at)) e
      ∙ ap (λ b. b && same_truth row.gives row.gives && same_truth row.irreversible row.irreversible) (types_self (map type_of_kind row.takes))
      ∙ ap (λ b. b && same_truth row.irreversible row.irreversible) (truth_self row.gives) ∙ truth_self row.irreversible,
)

-- the tokens of a declaration, part by part
row_split : (row : Row) → row_tokens (Some row) ≡
    t.Word (codes "declare") ∷ t.Word (gives_text row.gives) ∷ t.Named row.name
    ∷ (left_paren ∷ joined_tokens (map type_tokens (map type_of_kind row.takes)) ++ right_paren ∷ []) ++ (group_tokens row.irreversible ++ [])
row_split row =
    let front : List TokenKind → List TokenKind = λ ks. t.Word (codes "declare") ∷ t.Word (gives_text row.gives) ∷ t.Named row.name ∷ left_paren ∷ ks in
    let types : List (List TokenKind) = map type_tokens (map type_of_kind row.takes) in
    ap (λ (x : List (List TokenKind)). front (joined_tokens x ++ right_paren ∷ group_tokens row.irreversible)) (kind_types row.takes)
    ∙ ap (λ (x : List TokenKind). front (joined_tokens types ++ right_paren ∷ x)) (sym (append-nil (group_tokens row.irreversible)))
    ∙ ap front (sym (append_assoc (joined_tokens types) (right_paren ∷ []) (group_tokens row.irreversible ++ [])))

-- the declarations are these functions, and the table's
pub record AreRightFor (fs : List Function) (ss : List Signature) : Type 0 where
  pub functions_are : functions_of ss ≡ fs
  pub right : all_right ss ≡ true

module _ (known : Known) where
  signature_made : (f : Function) → IsFunction f → MakesSome (signature false) (declaration_tokens f) (IsRightFor f)
  signature_made f h =
      let found = known.row f h in
      let row = found.0 in
      let told : function_named row.name ≡ Some f = ap (λ o. function_named (row_name o)) (sym found.1) ∙ (tells known f h).told in
      some_so (ap row_tokens found.1 ∙ row_split row)
      (behind_some refl (then_some (result_made row.gives) (name_some told (λ at.
      then_some (in_parens_made value_type type_tokens (λ x. Unit {0}) type_made (map type_of_kind row.takes) (all_unit (map type_of_kind row.takes)))
      (then_some (undoing_made row.irreversible) (some_nothing (right_for f row at found.1)))))))

  declarations_made : (right : Bool) (fs : List Function) → right ≡ true → AllByRecursion IsFunction fs → MakesSome (many (signature_behind false) (λ right s. right && is_right s) right) (flat_map declaration_tokens fs) (AreRightFor fs)
  declarations_made right [] e h = record { made = λ xs g. ([], no_tokens xs g, record { functions_are = refl; right = refl }) }
  declarations_made false (f ∷ fs) e h = absurd (cc)
  declarations_made true (f ∷ fs) e h = record {
    made = λ xs g.
        let s = front_of xs (declaration_tokens f) (flat_map declaration_tokens fs) g in
        let one = (signature_made f h.0).made s.first s.first_are in
        let more = (declarations_made (true && is_right one.0) fs one.2.1 h.1).made s.rest s.rest_are in (
          one.0 ∷ more.0,
          (s.first, s.rest, s.split, one.1, more.1),
          record {
            functions_are = ap (λ (x : Function). x ∷ functions_of more.0) one.2.0 ∙ ap (λ (x : List Function). f ∷ x) more.2.functions_are;
            right = ap (λ b. b && all_right more.0) one.2.1 ∙ more.2.right;
          },
        );
  }

-- ---- attributes and flags

profile_is : (p : Profile) → and_then (text_at (t.Text (profile_text p))) (profile_named false) ≡ Some p
profile_is Adaptive = refl
profile_is Base = refl

abbrev attributes_of : Module → Attributes
attributes_of m = record { profile = m.profile; qubits = m.qubits; results = m.results }

abbrev flags_of : Module → Flags
flags_of m = record { major = m.major; minor = m.minor; dynamic_qubits = m.dynamic_qubits; dynamic_results = m.dynamic_results }

module _ (known : Known) where
  attributes_made : (m : Module) → IsNumber m.qubits → IsNumber m.results → Makes (attributes false) (attributes_tokens m) (attributes_of m)
  attributes_made m h k =
      behind refl (then_made (value_made _ refl) (behind refl (behind refl (behind refl
      (then_made (behind refl (behind refl (value_made _ (profile_is m.profile))))
      (some_then (behind_some refl (behind_some refl (sign_some refl))) (λ x u.
      then_made (behind refl (behind refl (value_made _ (ap numeral_in (known.numeral m.qubits h)))))
      (then_made (behind refl (behind refl (value_made _ (ap numeral_in (known.numeral m.results k))))) (behind refl (nothing_made refl))))))))))

second_attributes_some : MakesSome (second_attributes false) second_attributes_tokens (λ x. Unit {0})
second_attributes_some = behind_some refl (then_some (value_made _ refl) (behind_some refl (behind_some refl (behind_some refl (sign_some refl)))))

flag_list_some : MakesSome flag_list flag_list_tokens (λ x. Unit {0})
flag_list_some =
    behind_some refl (behind_some refl (behind_some refl (behind_some refl (behind_some refl (behind_some refl (behind_some refl (behind_some refl (behind_some refl (behind_some refl (behind_some refl (sign_some refl)))))))))))

flag_line_made : {A : Type 0} (k behaviour sign_of : ℕ) (name : List ℕ) (q : Quoted) (spelling : List ℕ) (type : Reserved) (value : Part Token A) (v : TokenKind) (x : A) →
    class_of (t.Number (pos behaviour)) ≡ sign_of → class_of (t.FlagText name) ≡ flag_text_class q → class_of (t.Word spelling) ≡ reserved_class type → Makes value (v ∷ []) x →
    Makes (flag_line false k (sign sign_of) q type value) (flag_tokens k behaviour name spelling v) x
flag_line_made k behaviour sign_of name q spelling type value v x e f g m =
    then_made (value_made _ (numbered_is k)) (behind refl (behind refl (behind refl (behind refl (behind e (behind refl (behind f (behind refl (behind g (then_made m (behind refl (nothing_made refl))))))))))))

truth_made : (b : Bool) → Makes truth (t.Word (truth_text b) ∷ []) b
truth_made true = left_made (behind refl (nothing_made refl))
truth_made false = right_made (behind refl (nothing_made refl))

flags_made : (m : Module) → IsNumber m.major → IsNumber m.minor → Makes (flags false) (flag_list_tokens ++ flags_tokens m) (flags_of m)
flags_made m h k =
    some_then flag_list_some (λ x u.
    then_made (flag_line_made 0 1 140 (codes "qir_major_version") w.MajorVersion (codes "i32") w.I32 small_number (t.Number (pos m.major)) m.major refl refl refl (value_made _ (small_is m.major h)))
    (then_made (flag_line_made 1 7 141 (codes "qir_minor_version") w.MinorVersion (codes "i32") w.I32 small_number (t.Number (pos m.minor)) m.minor refl refl refl (value_made _ (small_is m.minor k)))
    (then_made (flag_line_made 2 1 140 (codes "dynamic_qubit_management") w.DynamicQubits (codes "i1") w.I1 truth (t.Word (truth_text m.dynamic_qubits)) m.dynamic_qubits refl refl refl (truth_made m.dynamic_qubits))
    (then_made (flag_line_made 3 1 140 (codes "dynamic_result_management") w.DynamicResults (codes "i1") w.I1 truth (t.Word (truth_text m.dynamic_results)) m.dynamic_results refl refl refl (truth_made m.dynamic_results)) (nothing_made refl)))))

-- ---- the module

-- what stands up to the declarations is the module's
pub record IsHeadingOf (m : Module) (h : Heading) : Type 0 where
  pub labels_are : h.labels ≡ m.labels
  pub blocks_are : h.blocks ≡ m.blocks
  pub declarations : AreRightFor m.declarations h.signatures

same_module : (m : Module) (h : Heading) → IsHeadingOf m h → module_of h (attributes_of m) (flags_of m) ≡ m
same_module m h is =
    ap (λ (x : List (List ℕ)). record m { labels = x; blocks = h.blocks; declarations = functions_of h.signatures }) is.labels_are
    ∙ ap (λ (x : List Block). record m { blocks = x; declarations = functions_of h.signatures }) is.blocks_are
    ∙ ap (λ (x : List Function). record m { declarations = x }) is.declarations.functions_are

module _ (known : Known) where
  ending_made : (m : Module) → IsShaped m → (h : Heading) → IsHeadingOf m h → Makes (ending false h) (attributes_tokens m ++ (second_attributes_tokens ++ (flag_list_tokens ++ flags_tokens m))) m
  ending_made m shaped h is =
      subst (λ b. Makes (cond b (then (attributes false) (λ x. second_attributes false ▸ then (flags false) (λ y. nothing (module_of h x y)))) never) (attributes_tokens m ++ (second_attributes_tokens ++ (flag_list_tokens ++ flags_tokens m))) m) (sym is.declarations.right)
      (then_made (attributes_made known m shaped.qubits shaped.results) (some_then second_attributes_some (λ x u. with_value (flags_made m shaped.major shaped.minor) (same_module m h is))))

  heading_made : (m : Module) → IsShaped m → MakesSome (heading false) (labels_tokens 0 m.labels ++ (function_tokens m.blocks ++ flat_map declaration_tokens m.declarations)) (IsHeadingOf m)
  heading_made m shaped =
      then_some (labels_made known 0 m.labels shaped.each_label) (then_some (function_made known m.blocks shaped.has_block shaped.each_block)
      (some_value (declarations_made known true m.declarations refl shaped.each_declaration) (λ ss right. record { labels_are = refl; blocks_are = refl; declarations = right })))

  pub module_made : (m : Module) → IsShaped m → Makes (module_part false) (module_tokens m) m
  module_made m shaped =
      let rest : List TokenKind = attributes_tokens m ++ (second_attributes_tokens ++ (flag_list_tokens ++ flags_tokens m)) in
      let declarations : List TokenKind = flat_map declaration_tokens m.declarations in
      tokens_so (sym (append_assoc (labels_tokens 0 m.labels) (function_tokens m.blocks ++ declarations) rest ∙ ap (λ (x : List TokenKind). labels_tokens 0 m.labels ++ x) (append_assoc (function_tokens m.blocks) declarations rest)))
      (some_then (heading_made m shaped) (ending_made m shaped))
