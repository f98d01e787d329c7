-- How code is seen: codes of what is kept, what code keeps true, and what it does ask by ask. Public calls cite the last
-- alone, and no rule does.
pub mod AsksCode
pub mod Sound
pub mod Closing
