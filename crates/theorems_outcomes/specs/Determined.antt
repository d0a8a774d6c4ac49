-- RULES, "How strong each statement is": any two outcomes allowed for one input are equal. An outcome is the answer of a function, and the last
-- value of each run that it was lent to write to. This is said of the contracts as the checker has them, which it proves of the code, and of no copy.
use Rattle.std.specs.Prelude.{◌≡◌}
use seplogic.Ra.Ura.{Ura}
use base.Logic.{SProp, ent, sep}
use prog.Memory.{Memory}
use prog.Routine.{Routine}
use types.Logic.{Logic}
use contract.Lifetimes.{Lfts}
use contract.Monad.{Fun, fact}
use denote.Triple.Entry.{Args, Res}
use denote.Triple.Clauses.{Ended, Clauses, Lasts, at_exit}

-- The contract of a function, in any model of memory and of running.
abbrev pub ContractOf : Ended → Type 2
ContractOf T = (M : Type 1) (𝓤 : Ura M) → (𝓛 : Logic 𝓤) → (Memory → SProp 𝓤) → (Routine → Fun 𝓤) → Clauses 𝓤 T

-- Where the contract allows two outcomes for the same arguments, their answers are seen to be the same, and their last values are.
abbrev pub SeenDetermined : (T : Ended) (Seen : Lfts T.signature.lifetimes → Type 0) → ((lifetimes : Lfts T.signature.lifetimes) → Res T.signature lifetimes → Seen lifetimes) → ContractOf T → Type 2
SeenDetermined T Seen seen contract =
    (M : Type 1) (𝓤 : Ura M) (𝓛 : Logic 𝓤) (mem : Memory → SProp 𝓤) (run : Routine → Fun 𝓤)
    (lifetimes : Lfts T.signature.lifetimes) (arguments : Args T.signature lifetimes) (g h : (contract M 𝓤 𝓛 mem run lifetimes arguments).ghost)
    (one other : Res T.signature lifetimes) (lasts others : Lasts T lifetimes arguments) →
    ent 𝓤
    (sep 𝓤
    ((contract M 𝓤 𝓛 mem run lifetimes arguments).ensures g one (at_exit T lifetimes arguments lasts))
    ((contract M 𝓤 𝓛 mem run lifetimes arguments).ensures h other (at_exit T lifetimes arguments others)))
    (fact 𝓤 ((seen lifetimes one ≡ seen lifetimes other) × (lasts ≡ others)))

-- An answer is seen whole. Of a part of the file that is handed back, it is the octets that are seen, and not where they lie in memory.
abbrev pub Determined : (T : Ended) → ContractOf T → Type 2
Determined T contract = SeenDetermined T (Res T.signature) (λ _ answer. answer) contract
