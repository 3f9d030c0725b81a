use Rattle.std.proofs.Common.{◌≡◌, ℕ, List, length, Some, arith, codes, refl, rules}
use Rattle.std.proofs.lemmas.Slice.Eq.{HasBytesAt, text_from_reads}
use Rattle.striptext.specs.Name.{name}
use Rattle.striptext.specs.declared.name.Name.{Name}
use Rattle.striptext.specs.declared.name.Name.TheVariants.{Spread, SetCurve, DropCurve, LayPatch, ChangeReading, MovePatch, LiftPatch, ReadPatch, Finish, Reopen}
use Rattle.striptext.proofs.name.NameWord.of_word.Goals as goal

-- a word that reads as a name is that name
read_as : (word text : List ℕ) (n : Name) → name text ≡ Some n → length word ≡ length text → HasBytesAt word 0 text → Some n ≡ name word
read_as word text n is long bytes = rw (text_from_reads word text long bytes, is)

pub returns-in-spread : goal.returns-in-spread
returns-in-spread c = read_as c.args.word.now (codes "spread") Spread refl (omega arith) (search rules)

pub returns-in-115 : goal.returns-in-115
returns-in-115 c = read_as c.args.word.now (codes "set-curve") SetCurve refl (omega arith) (search rules)

pub returns-in-100 : goal.returns-in-100
returns-in-100 c = read_as c.args.word.now (codes "drop-curve") DropCurve refl (omega arith) (search rules)

pub returns-in-108 : goal.returns-in-108
returns-in-108 c = read_as c.args.word.now (codes "lay-patch") LayPatch refl (omega arith) (search rules)

pub returns-in-99 : goal.returns-in-99
returns-in-99 c = read_as c.args.word.now (codes "change-reading") ChangeReading refl (omega arith) (search rules)

pub returns-in-109 : goal.returns-in-109
returns-in-109 c = read_as c.args.word.now (codes "move-patch") MovePatch refl (omega arith) (search rules)

pub returns-in-108-2 : goal.returns-in-108-2
returns-in-108-2 c = read_as c.args.word.now (codes "lift-patch") LiftPatch refl (omega arith) (search rules)

pub returns-in-114 : goal.returns-in-114
returns-in-114 c = read_as c.args.word.now (codes "read-patch") ReadPatch refl (omega arith) (search rules)

pub returns-in-finish : goal.returns-in-finish
returns-in-finish c = read_as c.args.word.now (codes "finish") Finish refl (omega arith) (search rules)

pub returns-in-reopen : goal.returns-in-reopen
returns-in-reopen c = read_as c.args.word.now (codes "reopen") Reopen refl (omega arith) (search rules)
