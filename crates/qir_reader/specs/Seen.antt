-- Serves private contracts: what the words, the quoted texts and the stops of the code stand for.
use Rattle.std.specs.Prelude.{◌≡◌, ◌≢◌, ℕ, ◌≤◌, ◌<◌, IsTrue, Bool, true, false, cond, List, [], ◌∷◌, length, drop, Option, Some, None, Result, Ok, Err}
use Rattle.std.specs.Borrow.{Bor}
use Rattle.qir_module.specs.Tokens.{Token, Escape as Standing, Outside, Opened, HalfRead, is_body}
use Rattle.qir_module.specs.Words as w
use Rattle.qir_module.specs.Words.{kind}
use Rattle.grammar_parts.specs.Reading.{Refusal, syntax, deep, Reader, heads}
use Rattle.grammar_parts.specs.Kinds.{among}
use Rattle.qir_module.specs.Reader.{stray_kinds}
use Rattle.qir_reader.specs.declared.words.Reserved.{Reserved}
use Rattle.qir_reader.specs.declared.words.Reserved.TheVariants as r
use Rattle.qir_reader.specs.declared.words.Quoted.{Quoted}
use Rattle.qir_reader.specs.declared.words.Quoted.TheVariants as q
use Rattle.qir_lexer.specs.Seen.{kind_of, between}
use Rattle.qir_lexer.specs.declared.token.QirKind.{QirKind}
use Rattle.qir_lexer.specs.declared.token.QirKind.TheVariants as k
use Rattle.qir_reader.specs.declared.bytes.Escape.{Escape}
use Rattle.qir_reader.specs.declared.bytes.Escape.TheVariants as escape
use Rattle.qir_reader.specs.declared.peek.Next.{Next}
use Rattle.qir_reader.specs.declared.stop.Stop.{Stop}
use Rattle.qir_reader.specs.declared.stop.Stop.TheVariants as why

abbrev pub reserved_of : Reserved → w.Reserved
reserved_of r.Define = w.Define
reserved_of r.Declare = w.Declare
reserved_of r.Attributes = w.Attributes
reserved_of r.Internal = w.Internal
reserved_of r.ConstantWord = w.ConstantWord
reserved_of r.X = w.X
reserved_of r.I1 = w.I1
reserved_of r.I8 = w.I8
reserved_of r.I32 = w.I32
reserved_of r.I64 = w.I64
reserved_of r.Ptr = w.Ptr
reserved_of r.Void = w.Void
reserved_of r.Null = w.Null
reserved_of r.Inttoptr = w.Inttoptr
reserved_of r.To = w.To
reserved_of r.Label = w.Label
reserved_of r.True = w.True
reserved_of r.False = w.False
reserved_of r.Phi = w.Phi
reserved_of r.Icmp = w.Icmp
reserved_of r.Zext = w.Zext
reserved_of r.Trunc = w.Trunc
reserved_of r.Select = w.Select
reserved_of r.Call = w.Call
reserved_of r.Br = w.Br
reserved_of r.Ret = w.Ret
reserved_of (r.Arithmetic op) = w.Arithmetic op
reserved_of (r.Logic op) = w.Logic op
reserved_of (r.Condition op) = w.Condition op
reserved_of r.Other = w.Other

abbrev pub quoted_of : Quoted → w.Quoted
quoted_of q.EntryPoint = w.EntryPoint
quoted_of q.Profiles = w.Profiles
quoted_of (q.AProfile x) = w.AProfile x
quoted_of q.LabelingSchema = w.LabelingSchema
quoted_of q.Labeled = w.Labeled
quoted_of q.RequiredQubits = w.RequiredQubits
quoted_of q.RequiredResults = w.RequiredResults
quoted_of q.Irreversible = w.Irreversible
quoted_of q.MajorVersion = w.MajorVersion
quoted_of q.MinorVersion = w.MinorVersion
quoted_of q.DynamicQubits = w.DynamicQubits
quoted_of q.DynamicResults = w.DynamicResults
quoted_of (q.Numeral x) = w.Numeral x
quoted_of q.OtherText = w.OtherText

-- a row of a table: a spelling, and what it is
abbrev pub word_in : Bor (List ℕ) × Reserved → List ℕ × w.Reserved
word_in row = (row.0.now, reserved_of row.1)

abbrev pub text_in : Bor (List ℕ) × Quoted → List ℕ × w.Quoted
text_in row = (row.0.now, quoted_of row.1)

-- the kind of the next token, and 0 at the end
abbrev pub head_kind : List Token → ℕ
head_kind [] = 0
head_kind (t ∷ ts) = kind t

-- what a test has for the next token
abbrev pub first_by : {A : Type 0} → (Token → Option A) → List Token → Option A
first_by test [] = None
first_by test (t ∷ ts) = test t

-- a character of a quoted text stands so
abbrev pub escape_of : Escape → Standing
escape_of escape.Outside = Outside
escape_of escape.Opened = Opened
escape_of (escape.HalfRead high) = HalfRead high

-- a digit that was read is one
abbrev pub IsSmall : Escape → Type 0
IsSmall (escape.HalfRead high) = high < 16
IsSmall _ = Unit {0}

-- why reading stops at these tokens
abbrev pub refusal : Stop → List Token → Refusal Token
refusal why.Value ts = deep ts
refusal _ ts = syntax ts

-- What a call tells that reads by this reader, where its value stands for that of the reader so. Want of memory is
-- aside.
abbrev pub GivesAs : {X A : Type 0} → (X → A) → Reader Token A → List Token → Result X Stop → List Token → Type 0
GivesAs shown reader old (Ok x) new = reader old ≡ Ok (shown x, new)
GivesAs shown reader old (Err e) new = e ≢ why.Memory → reader old ≡ Err (refusal e new)

abbrev pub Gives : {A : Type 0} → Reader Token A → List Token → Result A Stop → List Token → Type 0
Gives reader old result new = GivesAs (λ x. x) reader old result new

-- what was read, where the value of the code tells something of that of the reader
pub record Read {X A : Type 0} (shows : X → A → Type 0) (reader : Reader Token A) (old new : List Token) (x : X) : Type 0 where
  pub value : A
  pub shown : shows x value
  pub read : reader old ≡ Ok (value, new)

-- what a call tells that reads by this reader, where its value tells something of that of the reader
abbrev pub Reads : {X A : Type 0} → (X → A → Type 0) → Reader Token A → List Token → Result X Stop → List Token → Type 0
Reads shows reader old (Ok x) new = Read shows reader old new x
Reads shows reader old (Err e) new = e ≢ why.Memory → reader old ≡ Err (refusal e new)

-- a call that gives nothing of what it read
abbrev pub Takes : {A : Type 0} → Reader Token A → List Token → Result (Unit {0}) Stop → List Token → Type 0
Takes reader old result new = Reads (λ x a. Unit {0}) reader old result new

-- What is known of a spelling by its kind: what stands in front of a name, and the quotes of a quoted text with what
-- stands in front of them; and the characters of bytes are those of a quoted text.
abbrev pub IsSpelled : QirKind → List ℕ → Type 0
IsSpelled k.Named spelling = 1 ≤ length spelling
IsSpelled k.FlagName spelling = 1 ≤ length spelling
IsSpelled k.Text spelling = 2 ≤ length spelling
IsSpelled k.Bytes spelling = (3 ≤ length spelling) × IsTrue (is_body Outside (between 2 spelling))
IsSpelled k.FlagText spelling = 3 ≤ length spelling
IsSpelled _ spelling = Unit {0}

-- what is seen of a token is this
pub record IsSeen (t : Token) (next : Next) : Type 0 where
  pub kind : t.kind ≡ kind_of next.spelling.now next.kind
  pub at : t.at ≡ next.at
  pub spelled : IsSpelled next.kind next.spelling.now

-- this is seen of the next token
abbrev pub Peeks : List Token → Option Next → Type 0
Peeks [] None = Unit {0}
Peeks (t ∷ ts) (Some next) = IsSeen t next
Peeks _ _ = ⊥

-- the next token was taken where its value is right
abbrev pub TakesIf : Bool → List Token → Result (Unit {0}) Stop → List Token → Type 0
TakesIf true old (Ok x) new = new ≡ drop 1 old
TakesIf false old (Err e) new = (e ≡ why.Value) × (new ≡ old)
TakesIf _ old _ new = ⊥

-- the kinds of the words that begin no instruction, no phi and no last instruction are from 200 to 219
abbrev pub stray_stop : List Token → Stop
stray_stop ts = cond (heads (among kind stray_kinds) ts) why.Value why.Syntax
