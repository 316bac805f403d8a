-- `bookform::passing::sixteen_stand`: each of the bytes that are asked may stand behind the one before.
use Rattle.bookform.proofs.Standings.{run-behind}
use Rattle.bookform.proofs.passing.sixteen_stand.Goals as goal

pub returns : goal.returns
returns g c h =
    run-behind g.row.BETWEEN c.args.book.now c.args.from c.args.first c.requires.2 15
    (rw (c.stands_at.ensures, c.stands_at-2.ensures, c.stands_at-3.ensures, c.stands_at-4.ensures, c.stands_at-5.ensures, c.stands_at-6.ensures, c.stands_at-7.ensures, c.stands_at-8.ensures, c.stands_at-9.ensures, c.stands_at-10.ensures, c.stands_at-11.ensures, c.stands_at-12.ensures, c.stands_at-13.ensures, c.stands_at-14.ensures, c.stands_at-15.ensures, c.stands_at-16.ensures) at h)
