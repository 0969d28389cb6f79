use Rattle.std.proofs.Common.{rules, sym, drop, ◌∷◌, length, ◌<◌}
use Rattle.serving.proofs.Checking as checking
use Rattle.serving.proofs.first_line.FirstLine.next.Goals as goal
use Rattle.serving.proofs.first_line.FirstLine.next.Goals.{else-self-ge-LINE-via-then-self-ge-LINE+else-not-self, else-self-ge-LINE-via-else-self-ge-LINE}

pub returns-else-self-ge-LINE : goal.returns-else-self-ge-LINE
returns-else-self-ge-LINE c = λ more. elim c.else-self-ge-LINE.branch [
  | else-self-ge-LINE-via-then-self-ge-LINE+else-not-self w ↦
      sym (checking.differs_not (drop c.args.self.at c.args.self.wanted) c.args.self.differs c.args.self.room (c.args.byte ∷ more) w.if-not-self.false)
  | else-self-ge-LINE-via-else-self-ge-LINE w ↦
      let early : c.args.self.at < length c.args.self.wanted = (search rules) in
      rw c.if-byte-eq10.true
      (sym (checking.ends_early (drop c.args.self.at c.args.self.wanted) c.args.self.differs c.args.self.room more
      (checking.some_wanted c.args.self.at c.args.self.wanted early)))
]
