-- RULES, "How strong each statement is": what a contract promises. Whatever outcome it allows has a property. This is said of the contracts as the
-- checker has them, which it proves of the code, and of no copy.
use seplogic.Ra.Ura.{Ura}
use base.Logic.{SProp, ent}
use prog.Memory.{Memory}
use prog.Routine.{Routine}
use types.Logic.{Logic}
use contract.Lifetimes.{Lfts}
use contract.Monad.{Fun, fact}
use denote.Triple.Entry.{Args, Res}
use denote.Triple.Clauses.{Ended, Lasts, at_exit}
use Rattle.theorems_outcomes.specs.Determined.{ContractOf}

-- A property of an outcome: of the arguments, of the answer, and of the last value of each run that was lent to be written.
abbrev pub Property : Ended → Type 1
Property T = (lifetimes : Lfts T.signature.lifetimes) (arguments : Args T.signature lifetimes) → Res T.signature lifetimes → Lasts T lifetimes arguments → Type 0

abbrev pub Promises : (T : Ended) → ContractOf T → Property T → Type 2
Promises T contract property =
    (M : Type 1) (𝓤 : Ura M) (𝓛 : Logic 𝓤) (mem : Memory → SProp 𝓤) (run : Routine → Fun 𝓤)
    (lifetimes : Lfts T.signature.lifetimes) (arguments : Args T.signature lifetimes) (g : (contract M 𝓤 𝓛 mem run lifetimes arguments).ghost)
    (answer : Res T.signature lifetimes) (lasts : Lasts T lifetimes arguments) →
    ent 𝓤 ((contract M 𝓤 𝓛 mem run lifetimes arguments).ensures g answer (at_exit T lifetimes arguments lasts)) (fact 𝓤 (property lifetimes arguments answer lasts))
