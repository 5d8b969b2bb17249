-- Refusals in words, as bytes.
use Rattle.std.specs.Prelude.{ℕ, List, ◌++◌, codes, decimal}
use Rattle.diagram.specs.declared.refusal.Refusal.{Refusal}
use Rattle.diagram.specs.declared.refusal.Refusal.TheVariants.{ShortStore, NoNumberLeft, WrongStates, WrongChildren, NoNode, InUse, Repeated, NotPart, NotJoined, StaleChild, LongArm, LongResult, Stale, NoTerm}
use Rattle.diagram.specs.Refusals.{number_of}

abbrev pub words_of : Refusal → List ℕ
words_of ShortStore = codes "the store is too short"
words_of NoNumberLeft = codes "no number is left for a node"
words_of WrongStates = codes "a part has 1 to 64 states"
words_of WrongChildren = codes "2 to 8 nodes are joined"
words_of NoNode = codes "there is no such node"
words_of InUse = codes "the node is in use"
words_of Repeated = codes "a node is named twice"
words_of NotPart = codes "the node is no part"
words_of NotJoined = codes "the node is no joined one"
words_of StaleChild = codes "a child is stale"
words_of LongArm = codes "an arm has too many terms"
words_of LongResult = codes "a running result has too many terms"
words_of Stale = codes "the node is stale"
words_of NoTerm = codes "there is no such term"

-- a sentence, then the number in brackets
abbrev pub refusal_text : Refusal → List ℕ
refusal_text e = words_of e ++ (codes " (" ++ (decimal (number_of e) ++ codes ")"))
