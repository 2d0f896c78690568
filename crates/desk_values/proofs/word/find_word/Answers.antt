use Rattle.desk_values.proofs.Words.{member_with_word_law}
use Rattle.desk_values.proofs.word.find_word.Goals as goal

pub returns-clause-law : goal.returns-clause-law
returns-clause-law g c = rw c.found_word.ensures (member_with_word_law g.W.Word.word_of g.W.Word.members_of g.met.W.Word.own_words c.args.bytes.now)
