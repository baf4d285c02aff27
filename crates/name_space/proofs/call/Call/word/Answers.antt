use Rattle.std.proofs.Common.{refl}
use Rattle.name_space.proofs.call.Call.word.Goals as goal

pub returns-in-Mkdirs : goal.returns-in-Mkdirs
returns-in-Mkdirs c = rw c.in-Mkdirs.is refl

pub returns-in-Create : goal.returns-in-Create
returns-in-Create c = rw c.in-Create.is refl

pub returns-in-Append : goal.returns-in-Append
returns-in-Append c = rw c.in-Append.is refl

pub returns-in-Grow : goal.returns-in-Grow
returns-in-Grow c = rw c.in-Grow.is refl

pub returns-in-Close : goal.returns-in-Close
returns-in-Close c = rw c.in-Close.is refl

pub returns-in-Stat : goal.returns-in-Stat
returns-in-Stat c = rw c.in-Stat.is refl

pub returns-in-List : goal.returns-in-List
returns-in-List c = rw c.in-List.is refl

pub returns-in-Delete : goal.returns-in-Delete
returns-in-Delete c = rw c.in-Delete.is refl

pub returns-in-Rename : goal.returns-in-Rename
returns-in-Rename c = rw c.in-Rename.is refl

pub returns-in-Chmod : goal.returns-in-Chmod
returns-in-Chmod c = rw c.in-Chmod.is refl

pub returns-in-SetQuota : goal.returns-in-SetQuota
returns-in-SetQuota c = rw c.in-SetQuota.is refl

pub returns-in-Usage : goal.returns-in-Usage
returns-in-Usage c = rw c.in-Usage.is refl
