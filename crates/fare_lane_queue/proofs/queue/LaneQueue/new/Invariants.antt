use Rattle.fare_lane_queue.proofs.queue.LaneQueue.new.Given as goal

abbrev pub ghosts-part : goal.ghosts-part
ghosts-part a = record { bases = a._bases.now }
