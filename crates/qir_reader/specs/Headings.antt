-- Serves private contracts: what the labels and declarations of the code stand for.
use Rattle.std.specs.Prelude.{◌≡◌, List, map, Option}
use Rattle.std.specs.Option.{option_map}
use Rattle.std.specs.declared.alloc.Global.{Global}
use Rattle.std.specs.declared.vec.Vec.{Vec}
use Rattle.qq_base.specs.declared.refusal.Span.{Span}
use Rattle.qir_module.specs.Grammar.{ValueType, WordType, TruthType, PointerType, is_right, functions_of, Heading}
use Rattle.qir_module.specs.Grammar as g
use Rattle.qir_module.specs.Spoilt.{first_wrong}
use Rattle.qir_reader.specs.declared.declaration.ValueType.{ValueType as CodeType}
use Rattle.qir_reader.specs.declared.declaration.ValueType.TheVariants as c
use Rattle.qir_reader.specs.declared.declaration.Signature.{Signature}
use Rattle.qir_reader.specs.declared.declaration.Declarations.{Declarations}
use Rattle.qir_reader.specs.declared.declaration.Heading.{Heading as CodeHeading}

abbrev pub type_of : CodeType → ValueType
type_of c.Word = WordType
type_of c.Truth = TruthType
type_of c.Pointer = PointerType

abbrev pub types_of : Vec CodeType Global → List ValueType
types_of found = map type_of found.items

-- the function of the declaration, the place of its name, and whether it is the table's
abbrev pub ShowsSignature : Signature → g.Signature → Type 0
ShowsSignature x s = (x.function ≡ s.function) × (x.at ≡ s.at) × (x.right ≡ is_right s)

abbrev pub place_of_wrong : Option g.Signature → Option Span
place_of_wrong wrong = option_map (λ s. s.at) wrong

-- the functions of the declarations, and the place of the first that is not the table's
abbrev pub ShowsSignatures : Declarations → List g.Signature → Type 0
ShowsSignatures x ss = (x.functions.items ≡ functions_of ss) × (x.wrong ≡ place_of_wrong (first_wrong ss))

abbrev pub ShowsHeading : CodeHeading → Heading → Type 0
ShowsHeading x h = (x.labels.items ≡ h.labels) × (x.blocks.items ≡ h.blocks) × ShowsSignatures x.declarations h.signatures
