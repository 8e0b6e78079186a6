mod Dropped
