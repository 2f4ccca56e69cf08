use Rattle.std.proofs.Common.{◌≡◌, refl}
use Rattle.mdcc_world.proofs.CutShort.{cut-none, memory-untold}
use Rattle.mdcc_world.proofs.Left.{left-few, left-unmoved}
use Rattle.mdcc_world.proofs.Limited.{limited-none}
use Rattle.mdcc_world.proofs.world.World.happen.Goals as goal

pub returns-in-Read-clause-happens : goal.returns-in-Read-clause-happens
returns-in-Read-clause-happens c w like = rw c.in-Read.is (c.read.ensures.happens w like)

pub returns-in-Read-clause-left : goal.returns-in-Read-clause-left
returns-in-Read-clause-left c w like =
    rw c.in-Read.is (left-unmoved c.read.result c.args.self.now c.read.new.self c.args.lines.now c.read.new.lines w like c.read.ensures.kept)

pub returns-in-Read-clause-few_left : goal.returns-in-Read-clause-few_left
returns-in-Read-clause-few_left c = left-few c.read.result c.args.self.now c.read.new.self c.args.lines.now c.read.new.lines c.requires.few c.read.ensures.kept

pub returns-in-Begin-clause-happens : goal.returns-in-Begin-clause-happens
returns-in-Begin-clause-happens c w like = rw (c.in-Begin.is, ← c.as_slice.ensures) (c.begin.ensures.happens w like)

pub returns-in-Begin-clause-left : goal.returns-in-Begin-clause-left
returns-in-Begin-clause-left c w like =
    rw c.in-Begin.is (left-unmoved c.begin.result c.args.self.now c.begin.new.self c.args.lines.now c.begin.new.lines w like c.begin.ensures.kept)

pub returns-in-Begin-clause-few_left : goal.returns-in-Begin-clause-few_left
returns-in-Begin-clause-few_left c = left-few c.begin.result c.args.self.now c.begin.new.self c.args.lines.now c.begin.new.lines c.requires.few c.begin.ensures.kept

pub returns-in-Tick-clause-happens : goal.returns-in-Tick-clause-happens
returns-in-Tick-clause-happens c w like = rw c.in-Tick.is (c.tick.ensures.happens w like)

pub returns-in-Tick-clause-left : goal.returns-in-Tick-clause-left
returns-in-Tick-clause-left c w like =
    rw c.in-Tick.is (left-unmoved c.tick.result c.args.self.now c.tick.new.self c.args.lines.now c.tick.new.lines w like c.tick.ensures.kept)

pub returns-in-Tick-clause-few_left : goal.returns-in-Tick-clause-few_left
returns-in-Tick-clause-few_left c = left-few c.tick.result c.args.self.now c.tick.new.self c.args.lines.now c.tick.new.lines c.requires.few c.tick.ensures.kept

pub returns-in-Sweep-clause-happens : goal.returns-in-Sweep-clause-happens
returns-in-Sweep-clause-happens c w like = rw c.in-Sweep.is (c.sweep.ensures.happens w like)

pub returns-in-Sweep-clause-left : goal.returns-in-Sweep-clause-left
returns-in-Sweep-clause-left c w like =
    rw c.in-Sweep.is (left-unmoved c.sweep.result c.args.self.now c.sweep.new.self c.args.lines.now c.sweep.new.lines w like c.sweep.ensures.kept)

pub returns-in-Sweep-clause-few_left : goal.returns-in-Sweep-clause-few_left
returns-in-Sweep-clause-few_left c = left-few c.sweep.result c.args.self.now c.sweep.new.self c.args.lines.now c.sweep.new.lines c.requires.few c.sweep.ensures.kept

pub returns-in-Crash-clause-happens : goal.returns-in-Crash-clause-happens
returns-in-Crash-clause-happens c w like = rw c.in-Crash.is (c.crash.ensures.happens w like)

pub returns-in-Crash-clause-left : goal.returns-in-Crash-clause-left
returns-in-Crash-clause-left c w like =
    rw c.in-Crash.is (left-unmoved c.crash.result c.args.self.now c.crash.new.self c.args.lines.now c.crash.new.lines w like c.crash.ensures.kept)

pub returns-in-Crash-clause-few_left : goal.returns-in-Crash-clause-few_left
returns-in-Crash-clause-few_left c = left-few c.crash.result c.args.self.now c.crash.new.self c.args.lines.now c.crash.new.lines c.requires.few c.crash.ensures.kept

pub returns-in-Restart-clause-happens : goal.returns-in-Restart-clause-happens
returns-in-Restart-clause-happens c w like = rw c.in-Restart.is (c.restart.ensures.happens w like)

pub returns-in-Restart-clause-left : goal.returns-in-Restart-clause-left
returns-in-Restart-clause-left c w like =
    rw c.in-Restart.is (left-unmoved c.restart.result c.args.self.now c.restart.new.self c.args.lines.now c.restart.new.lines w like c.restart.ensures.kept)

pub returns-in-Restart-clause-few_left : goal.returns-in-Restart-clause-few_left
returns-in-Restart-clause-few_left c = left-few c.restart.result c.args.self.now c.restart.new.self c.args.lines.now c.restart.new.lines c.requires.few c.restart.ensures.kept

pub returns-in-Stop-clause-happens : goal.returns-in-Stop-clause-happens
returns-in-Stop-clause-happens c w like = rw c.in-Stop.is (c.stop.ensures.happens w like)

pub returns-in-Stop-clause-left : goal.returns-in-Stop-clause-left
returns-in-Stop-clause-left c w like =
    rw c.in-Stop.is (left-unmoved c.stop.result c.args.self.now c.stop.new.self c.args.lines.now c.stop.new.lines w like c.stop.ensures.kept)

pub returns-in-Stop-clause-few_left : goal.returns-in-Stop-clause-few_left
returns-in-Stop-clause-few_left c = left-few c.stop.result c.args.self.now c.stop.new.self c.args.lines.now c.stop.new.lines c.requires.few c.stop.ensures.kept

pub returns-in-Read-clause-limited : goal.returns-in-Read-clause-limited
returns-in-Read-clause-limited c w like = rw c.in-Read.is (limited-none c.read.result c.args.lines.now c.read.new.lines c.read.ensures.untold)

pub returns-in-Begin-clause-limited : goal.returns-in-Begin-clause-limited
returns-in-Begin-clause-limited c w like = rw c.in-Begin.is (limited-none c.begin.result c.args.lines.now c.begin.new.lines c.begin.ensures.untold)

pub returns-in-Tick-clause-limited : goal.returns-in-Tick-clause-limited
returns-in-Tick-clause-limited c w like = rw c.in-Tick.is (limited-none c.tick.result c.args.lines.now c.tick.new.lines c.tick.ensures.untold)

pub returns-in-Sweep-clause-limited : goal.returns-in-Sweep-clause-limited
returns-in-Sweep-clause-limited c w like = rw c.in-Sweep.is (limited-none c.sweep.result c.args.lines.now c.sweep.new.lines c.sweep.ensures.untold)

pub returns-in-Crash-clause-limited : goal.returns-in-Crash-clause-limited
returns-in-Crash-clause-limited c w like = rw c.in-Crash.is (limited-none c.crash.result c.args.lines.now c.crash.new.lines c.crash.ensures.untold)

pub returns-in-Restart-clause-limited : goal.returns-in-Restart-clause-limited
returns-in-Restart-clause-limited c w like = rw c.in-Restart.is (limited-none c.restart.result c.args.lines.now c.restart.new.lines c.restart.ensures.untold)

pub returns-in-Stop-clause-limited : goal.returns-in-Stop-clause-limited
returns-in-Stop-clause-limited c w like = rw c.in-Stop.is (limited-none c.stop.result c.args.lines.now c.stop.new.lines c.stop.ensures.untold)

pub returns-in-Read-clause-cut : goal.returns-in-Read-clause-cut
returns-in-Read-clause-cut c w like =
    rw c.in-Read.is (memory-untold c.read.result (λ (same : c.read.new.lines ≡ c.args.lines.now). cut-none c.read.new.self c.args.lines.now c.read.new.lines w _ (λ n. refl) same) c.read.ensures.untold)

pub returns-in-Begin-clause-cut : goal.returns-in-Begin-clause-cut
returns-in-Begin-clause-cut c w like =
    rw c.in-Begin.is (memory-untold c.begin.result (λ (same : c.begin.new.lines ≡ c.args.lines.now). cut-none c.begin.new.self c.args.lines.now c.begin.new.lines w _ (λ n. refl) same) c.begin.ensures.untold)

pub returns-in-Tick-clause-cut : goal.returns-in-Tick-clause-cut
returns-in-Tick-clause-cut c w like =
    rw c.in-Tick.is (memory-untold c.tick.result (λ (same : c.tick.new.lines ≡ c.args.lines.now). cut-none c.tick.new.self c.args.lines.now c.tick.new.lines w _ (λ n. refl) same) c.tick.ensures.untold)

pub returns-in-Sweep-clause-cut : goal.returns-in-Sweep-clause-cut
returns-in-Sweep-clause-cut c w like =
    rw c.in-Sweep.is (memory-untold c.sweep.result (λ (same : c.sweep.new.lines ≡ c.args.lines.now). cut-none c.sweep.new.self c.args.lines.now c.sweep.new.lines w _ (λ n. refl) same) c.sweep.ensures.untold)

pub returns-in-Crash-clause-cut : goal.returns-in-Crash-clause-cut
returns-in-Crash-clause-cut c w like =
    rw c.in-Crash.is (memory-untold c.crash.result (λ (same : c.crash.new.lines ≡ c.args.lines.now). cut-none c.crash.new.self c.args.lines.now c.crash.new.lines w _ (λ n. refl) same) c.crash.ensures.untold)

pub returns-in-Restart-clause-cut : goal.returns-in-Restart-clause-cut
returns-in-Restart-clause-cut c w like =
    rw c.in-Restart.is (memory-untold c.restart.result (λ (same : c.restart.new.lines ≡ c.args.lines.now). cut-none c.restart.new.self c.args.lines.now c.restart.new.lines w _ (λ n. refl) same) c.restart.ensures.untold)

pub returns-in-Stop-clause-cut : goal.returns-in-Stop-clause-cut
returns-in-Stop-clause-cut c w like =
    rw c.in-Stop.is (memory-untold c.stop.result (λ (same : c.stop.new.lines ≡ c.args.lines.now). cut-none c.stop.new.self c.args.lines.now c.stop.new.lines w _ (λ n. refl) same) c.stop.ensures.untold)
