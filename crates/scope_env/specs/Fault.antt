-- A declaration that is refused.
use Rattle.scope_env.specs.declared.scope.DeclareFault.{DeclareFault}
use Rattle.scope_env.specs.declared.scope.DeclareFault.TheVariants.{Memory, Redeclared}

-- the value that is handed back
abbrev pub value_of : {T : Type 0} → DeclareFault T → T
value_of (Memory value) = value
value_of (Redeclared value) = value
