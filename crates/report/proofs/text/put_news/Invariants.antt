-- The loop's invariant: the lines of the states passed were put.
-- Assumes nothing.
use lib.ListN.{get_or, take}
use Rattle.record.specs.Putting.{Puts}
use Rattle.report.specs.Texts.{news_text}
use Rattle.report.proofs.text.put_news.Given as goal

abbrev pub invariant-loop-s : goal.invariant-loop-s
invariant-loop-s l = Puts (news_text l.line (λ s. get_or l.status s 0) (take l.s-index l.news)) l.initial.text l.text
