-- The names that stand in a tree: whether each of them is of a kind.
use Rattle.std.specs.Prelude.{◌≡◌, ℕ, Bool, true, List, [], ◌∷◌}
use Rattle.qasm_ast.specs.Tree.{Called, word, qubit, Tree, named, wire, number, truth, bit_string, unary, binary, cast, call, cut, Trees, no_tree, a_tree, Maybe, absent, present, Bracket, position, range, members, Brackets, no_bracket, a_bracket, Operand, Change, inverse, power, control}

-- `is` says which names are of the kind
module _ (is : List ℕ → Bool) where
  abbrev pub CalledIs : Called → Type 0
  CalledIs (word text) = is text ≡ true
  CalledIs (qubit n) = Unit {0}

  abbrev mutual
    pub NamesAre : Tree → Type 0
    NamesAre (named name index _ _) = CalledIs name × BracketNamesAre index
    NamesAre (wire n _) = Unit {0}
    NamesAre (number n _) = Unit {0}
    NamesAre (truth b _) = Unit {0}
    NamesAre (bit_string bits _) = Unit {0}
    NamesAre (unary o a _) = NamesAre a
    NamesAre (binary o a b _) = NamesAre a × NamesAre b
    NamesAre (cast base width _ a _) = WidthNamesAre width × NamesAre a
    NamesAre (call name as' _) = (is name ≡ true) × AllNamesAre as'
    NamesAre cut = Unit {0}

    pub AllNamesAre : Trees → Type 0
    AllNamesAre no_tree = Unit {0}
    AllNamesAre (a_tree a as') = NamesAre a × AllNamesAre as'

    pub WidthNamesAre : Maybe → Type 0
    WidthNamesAre absent = Unit {0}
    WidthNamesAre (present a) = NamesAre a

    pub IndexNamesAre : Bracket → Type 0
    IndexNamesAre (position a) = NamesAre a
    IndexNamesAre (range start step stop _) = WidthNamesAre start × WidthNamesAre step × WidthNamesAre stop
    IndexNamesAre (members as') = AllNamesAre as'

    pub BracketNamesAre : Brackets → Type 0
    BracketNamesAre no_bracket = Unit {0}
    BracketNamesAre (a_bracket b bs) = IndexNamesAre b × BracketNamesAre bs

  -- of an operand, and of the modifiers of a call of a gate
  abbrev pub OperandNamesAre : Operand → Type 0
  OperandNamesAre o = CalledIs o.name × BracketNamesAre o.index

  abbrev pub ModifierNamesAre : Change → Type 0
  ModifierNamesAre (inverse place) = Unit {0}
  ModifierNamesAre (power a place) = NamesAre a
  ModifierNamesAre (control width place) = WidthNamesAre width

  abbrev pub OperandsNamesAre : List Operand → Type 0
  OperandsNamesAre [] = Unit {0}
  OperandsNamesAre (o ∷ os) = OperandNamesAre o × OperandsNamesAre os
