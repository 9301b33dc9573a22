use Rattle.std.proofs.lemmas.Str.{chars-nil}
use Rattle.rp_show.proofs.object_names.word_in.Goals as goal

pub returns-in-List : goal.returns-in-List
returns-in-List c = rw c.in-List.is chars-nil

pub returns-in-Tuple : goal.returns-in-Tuple
returns-in-Tuple c = rw c.in-Tuple.is chars-nil

pub returns-in-Dict : goal.returns-in-Dict
returns-in-Dict c = rw c.in-Dict.is chars-nil

pub returns-in-Scope : goal.returns-in-Scope
returns-in-Scope c = rw c.in-Scope.is chars-nil
