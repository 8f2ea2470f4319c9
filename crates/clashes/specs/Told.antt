-- What the code's types of a fact, and what facts clash by, say.
use Rattle.std.specs.Prelude.{List, []}
use Rattle.steps.specs.Tables.{Follows}
use Rattle.clashes.specs.Coded.{bits_follow}
use Rattle.clashes.specs.declared.clash.Clashes.{Clashes}
use Rattle.clashes.specs.declared.types.Typ.{Typ}
use Rattle.clashes.specs.declared.types.Types.{Types}
use Rattle.clashes.specs.declared.types.Types.TheVariants.{One, Four}

-- the types, one after the other
abbrev pub types_told : Types → List Typ
types_told (One types) = types
types_told (Four types) = types

-- what follows, of which clashes need what is excluded and what is functional
abbrev pub clashes_told : Clashes → Follows
clashes_told c = bits_follow [] c.excluded.now c.functional
