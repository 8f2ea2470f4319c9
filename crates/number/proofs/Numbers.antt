-- The numbers that the table gives to faults and sides tell them apart.
use Prim.Native.Nat.{ℕ}
use mathlib.Core.Path.{◌≡◌, refl}
use mathlib.Core.Bool.{cond}
use lib.Dec.{eqb}
use Rattle.number.specs.Answer.{number_of, fault_of, side_of}
use Rattle.number.specs.declared.refusal.Fault.{Fault}
use Rattle.number.specs.declared.refusal.Fault.TheVariants.{Cut, Long, Over, Count, Unknown, Broken, After, Order, Room, NoFact, Kind, Object}
use Rattle.number.specs.declared.refusal.Side.{Side}
use Rattle.number.specs.declared.refusal.Side.TheVariants.{Rules, Bundle, Call}
use Rattle.number.proofs.One.{undone}

pub fault_told_apart : (f f' : Fault) → number_of f ≡ number_of f' → f ≡ f'
fault_told_apart =
    undone number_of fault_of
    (elim [
      | Cut ↦ refl
      | Long ↦ refl
      | Over ↦ refl
      | Count ↦ refl
      | Unknown ↦ refl
      | Broken ↦ refl
      | After ↦ refl
      | Order ↦ refl
      | Room ↦ refl
      | NoFact ↦ refl
      | Kind ↦ refl
      | Object ↦ refl
    ])

side_back : ℕ → Side
side_back n = cond (eqb n 0) Rules (cond (eqb n 1) Bundle Call)

pub side_told_apart : (d d' : Side) → side_of d ≡ side_of d' → d ≡ d'
unfolding side_back
side_told_apart = undone side_of side_back (elim [ Rules ↦ refl | Bundle ↦ refl | Call ↦ refl ])
